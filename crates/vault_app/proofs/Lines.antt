-- The line that says that a file isn't opened.
use Rattle.std.proofs.Common.{◌≡◌, ℕ, ℤ, List, [], ◌++◌, Option, Some, None, codes, decimal, refl}
use Rattle.std.proofs.Common.{sym, ◌∙◌, ap, append-nil}
use Rattle.vault_refusal.specs.Refusal.{number_of}
use Rattle.vault_file.specs.Faults.{detail_of, detail_text, refusal_of}
use Rattle.vault_file.specs.declared.fault.NotOpened.{NotOpened}
use Rattle.vault_file.specs.declared.fault.NotOpened.TheVariants.{Refused, Fault}
use Rattle.vault_app.specs.Ending.{cause_line, not_opened_lines}

-- what stands before the detail
abbrev front_of : ℕ → List ℕ
front_of n = codes "vault: file not opened " ++ decimal n

-- the line with this number and this detail
whole : (f : NotOpened) (n : ℕ) (detail : Option ℤ) → n ≡ number_of (refusal_of f) → detail_of f ≡ detail
    → front_of n ++ detail_text detail ++ codes "\n" ++ cause_line f ≡ not_opened_lines f
whole f n detail number is =
    ap (λ k. front_of k ++ detail_text detail ++ codes "\n" ++ cause_line f) number
    ∙ ap (λ d. front_of (number_of (refusal_of f)) ++ detail_text d ++ codes "\n" ++ cause_line f) (sym is)

-- a cause has no detail
no_cause : (f : NotOpened) (m : ℤ) → detail_of f ≡ Some m → cause_line f ≡ []
no_cause (Refused cause) m is = absurd (cc (is))
no_cause (Fault fault) m is = refl

-- there is none
pub without_detail : (f : NotOpened) (n : ℕ) → n ≡ number_of (refusal_of f) → detail_of f ≡ None
    → front_of n ++ codes "\n" ++ cause_line f ≡ not_opened_lines f
without_detail f n number is =
    ap (λ text. text ++ codes "\n" ++ cause_line f) (sym (append-nil (front_of n))) ∙ whole f n None number is

-- there is one
pub with_detail : (f : NotOpened) (n : ℕ) (m : ℤ) → n ≡ number_of (refusal_of f) → detail_of f ≡ Some m
    → front_of n ++ detail_text (Some m) ++ codes "\n" ≡ not_opened_lines f
with_detail f n m number is =
    let line = front_of n ++ detail_text (Some m) ++ codes "\n" in
    sym (append-nil line) ∙ ap (λ cause. line ++ cause) (sym (no_cause f m is))
    ∙ whole f n (Some m) number is
