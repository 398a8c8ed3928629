-- A text that reads as an answer with a card number is the answer of such a reply.
use Rattle.std.proofs.Common.{◌≡◌, ℕ, zero, suc, ◌+◌, ◌/◌, ◌%◌, ◌==◌, Bool, true}
use Rattle.std.proofs.Common.{false, List, [], ◌∷◌, ◌++◌}
use Rattle.std.proofs.Common.{length, not, nat_lt, Option, None, Ok, Err, refl, sym, ap, ap₂, ◌∙◌, arith}
use Rattle.std.proofs.Common.{append_assoc, get_or, true≢false}
use Rattle.std.specs.Prelude.{codes, decimal}
use Rattle.std.specs.Fmt.{digit_glyph, digits, digits_onto}
use Rattle.std.proofs.lemmas.Bool.{eq-eqb, ne_eqb}
use Rattle.std.proofs.lemmas.List.{append_cancel_left, append_cancel_right}
use Rattle.std.proofs.lemmas.List.Elements.{All-cons, All-nil}
use Rattle.httparse.specs.Grammar.{AllPass}
use Rattle.httparse.proofs.RunLemmas.{run_unique}
use Rattle.vault_core.specs.Keys.{Bytes}
use Rattle.vault_core.specs.Table.{reply}
use Rattle.vault_core.specs.Vault.{Vault as Content}
use Rattle.vault_core.specs.declared.command.Command.{Command}
use Rattle.vault_core.specs.declared.reply.Reply.{Reply}
use Rattle.vault_core.specs.declared.reply.Reply.TheVariants.{Done, Token, Number, Counts, Refused}
use Rattle.vault_core.proofs.Branches.{by_test}
use Rattle.vault_wire.specs.Answer.{answer_bytes, close_line, crlf, kind_line, length_line, status_line}
use Rattle.vault_refusal.specs.Refusal as refusal
use Rattle.vault_refusal.specs.Refusal.{number_of}
use Rattle.vault_refusal.specs.declared.refusal.Refusal.{Refusal}
use Rattle.vault_refusal.specs.declared.refusal.Refusal.TheVariants.{BadNumber}
use Rattle.vault_refusal.proofs.Statuses.{of_number}
use Rattle.vault_wire.specs.Faults.{refusal_of}
use Rattle.vault_wire.specs.Parts.{Parts, closes}
use Rattle.vault_routes.specs.Reply.{body_text, refusal_text}
use Rattle.vault_routes.specs.Status.{status_for, status_of}
use Rattle.vault_routes.specs.Wanted.{Wanted}
use Rattle.vault_http.specs.Exchanges.{answer_for, fault_text, methods_with}
use Rattle.vault_engine.specs.Asking.{Pair, reply_to, text_at}
use Rattle.vault_promise.specs.DueNumbers.{FaultsTellNoNumber, TextsTellNumbers, number_text}

unlike : (a b : ℕ) → (a == b) ≡ false → a ≡ b → ⊥
unlike a b apart e = true≢false (sym (eq-eqb a b e) ∙ apart)

-- a byte that ends no line
abbrev is_plain : ℕ → Bool
is_plain b = not (b == 13)

plain-glyph : (d : ℕ) → is_plain (digit_glyph false d) ≡ true
plain-glyph d = by_test (λ g. is_plain g ≡ true) (nat_lt d 10) (48 + d) (87 + d)
    (λ _. ap not (ne_eqb _ _ (λ e. omega arith))) (λ _. ap not (ne_eqb _ _ (λ e. omega arith)))

plain-digits : (k n : ℕ) (acc : List ℕ) → AllPass is_plain acc
    → AllPass is_plain (digits_onto k 10 false n acc)
plain-digits zero n acc all = all
plain-digits (suc k) n acc all =
    let more = All-cons (λ b. is_plain b ≡ true) _ acc (plain-glyph (n % 10)) all in
    by_test (AllPass is_plain) (n / 10 == 0) (digit_glyph false (n % 10) ∷ acc)
    (digits_onto k 10 false (n / 10) (digit_glyph false (n % 10) ∷ acc))
    (λ _. more) (λ _. plain-digits k (n / 10) _ more)

plain-decimal : (n : ℕ) → AllPass is_plain (decimal n)
unfolding digits
plain-decimal n = plain-digits 64 n [] (All-nil (λ b. is_plain b ≡ true))

-- what follows the line of the length
after_length : (m n : ℕ) (r q : List ℕ) → length_line m ++ r ≡ length_line n ++ q → r ≡ q
after_length m n r q e =
    let front : List ℕ = codes "Content-Length: " in
    let is : (k : ℕ) (t : List ℕ) → length_line k ++ t ≡ front ++ (decimal k ++ (13 ∷ 10 ∷ t)) =
    (λ k t. ap (λ z. front ++ z) (append_assoc (decimal k) crlf t)) in
    let cut = append_cancel_left front _ _ (sym (is m r) ∙ e ∙ is n q) in
    let both = run_unique is_plain (decimal m) (decimal n) (13 ∷ 10 ∷ r) (13 ∷ 10 ∷ q) (plain-decimal m)
    (plain-decimal n) refl refl cut in
    append_cancel_left crlf r q both.1

-- whether the line of the close is there, and what follows it
after_close : (j k : Bool) (b c : List ℕ) → close_line j ++ (crlf ++ b) ≡ close_line k ++ (crlf ++ c)
    → (b ≡ c) × (j ≡ k)
after_close true true b c e =
    (append_cancel_left crlf b c (append_cancel_left (close_line true) (crlf ++ b) (crlf ++ c) e), refl)
after_close false false b c e = (append_cancel_left crlf b c e, refl)
after_close true false b c e = absurd (unlike 67 13 refl (ap (λ (t : List ℕ). get_or t 0 0) e))
after_close false true b c e = absurd (unlike 13 67 refl (ap (λ (t : List ℕ). get_or t 0 0) e))

-- six texts and a body
six : (s k l a c e b : List ℕ) → s ++ k ++ l ++ a ++ c ++ e ++ b ≡ s ++ (k ++ (l ++ (a ++ (c ++ (e ++ b)))))
six s k l a c e b = simp append_assoc

-- two answers with 200 that are the same have the same body, and close both or neither
same_body : (b c : List ℕ) (j k : Bool) → answer_bytes 200 None b j ≡ answer_bytes 200 None c k
    → (b ≡ c) × (j ≡ k)
same_body b c j k e =
    let rest : List ℕ → Bool → List ℕ = (λ t l. close_line l ++ (crlf ++ t)) in
    let after_kind : List ℕ → Bool → List ℕ = (λ t l. length_line (length t) ++ rest t l) in
    let apart : (t : List ℕ) (l : Bool) → answer_bytes 200 None t l
    ≡ status_line 200 ++ (kind_line ++ after_kind t l) =
    (λ t l. six (status_line 200) kind_line (length_line (length t)) [] (close_line l) crlf t) in
    let first =
    append_cancel_left (status_line 200) (kind_line ++ after_kind b j) (kind_line ++ after_kind c k)
    (sym (apart b j) ∙ e ∙ apart c k) in
    let second = append_cancel_left kind_line (after_kind b j) (after_kind c k) first in
    after_close j k b c (after_length (length b) (length c) (rest b j) (rest c k) second)

-- the text of an answer with this status code is none of an answer with 200
record IsApart (code : ℕ) : Type 0 where
  apart : (allow : Option (List ℕ)) (b c : List ℕ) (j k : Bool)
      → answer_bytes code allow b j ≡ answer_bytes 200 None c k → ⊥

starts_other : {code : ℕ} (digit : ℕ)
    → ((allow : Option (List ℕ)) (b : List ℕ) (j : Bool) → get_or (answer_bytes code allow b j) 9 0 ≡ digit)
    → (digit == 50) ≡ false → IsApart code
unfolding digits
starts_other digit is other = record {
  apart = λ allow b c j k e.
      unlike digit 50 other (sym (is allow b j) ∙ ap (λ (t : List ℕ). get_or t 9 0) e);
}

-- each refusal has such a status, and so has what is none
status_apart : (r : Refusal) → IsApart (refusal.status_of r)
unfolding digits
status_apart BadNumber = starts_other 52 (λ allow b j. refl) refl
status_apart other = starts_other (48 + refusal.status_of other / 100) (λ allow b j. refl) refl

other_apart : IsApart refusal.other_status
unfolding digits
other_apart = starts_other 53 (λ allow b j. refl) refl

refused_status : (n : ℕ) → IsApart (status_for n)
refused_status n = of_number IsApart n refusal.refusals other_apart (λ r is. status_apart r)

-- a body that reads as one with a number is the body of that reply
body_tells : (r : Reply) (number : Bytes) → body_text r ≡ body_text (Number number) → r ≡ Number number
body_tells Done number e = absurd (unlike 100 110 refl (ap (λ (t : List ℕ). get_or t 2 0) e))
body_tells (Token token expires) number e = absurd (unlike 101 110 refl (ap (λ (t : List ℕ). get_or t 2 0) e))
body_tells (Number other) number e =
    let cut : other ++ codes "\"}" ≡ number ++ codes "\"}" =
    append_cancel_left (codes "{\"number\":\"") (other ++ codes "\"}") (number ++ codes "\"}") e in
    ap Number (append_cancel_right other number (codes "\"}") cut)
body_tells (Counts made given denied) number e =
    absurd (unlike 100 110 refl (ap (λ (t : List ℕ). get_or t 2 0) e))
body_tells (Refused n) number e = absurd (unlike 114 110 refl (ap (λ (t : List ℕ). get_or t 2 0) e))
body_tells shown number e = absurd (unlike 98 110 refl (ap (λ (t : List ℕ). get_or t 2 0) e))

of_body : (r : Reply) (number : Bytes) (j k : Bool)
    → answer_bytes 200 None (body_text r) j ≡ number_text number k → (r ≡ Number number) × (j ≡ k)
of_body r number j k e =
    let both = same_body (body_text r) (body_text (Number number)) j k e in
    (body_tells r number both.0, both.1)

tells : (r : Reply) (number : Bytes) (j k : Bool)
    → answer_bytes (status_of r) None (body_text r) j ≡ number_text number k → (r ≡ Number number) × (j ≡ k)
tells (Refused n) number j k e =
    absurd ((refused_status n).apart None (refusal_text n) (body_text (Number number)) j k e)
tells r number j k e = of_body r number j k e

tells_wanted : (V : Content) (p : Parts) (pair : Pair) (w : Wanted Command) (number : Bytes) (close : Bool)
    → text_at answer_for V (record { unit = p; pair = pair; wanted = w }) ≡ number_text number close
    → (reply_to V w ≡ Number number) × (closes p ≡ close)
unfolding text_at
tells_wanted V p pair (Ok c) number close e = tells (reply V c) number (closes p) close e
tells_wanted V p pair (Err n) number close e =
    absurd ((refused_status (number_of n)).apart (methods_with p (Err n)) (refusal_text (number_of n))
    (body_text (Number number))
    (closes p) close e)

told_by : (V : Content) (p : Parts) (pair : Pair) (w : Wanted Command) (number : Bytes) (close : Bool)
    → (reply_to V w ≡ Number number) × (closes p ≡ close)
    → text_at answer_for V (record { unit = p; pair = pair; wanted = w }) ≡ number_text number close
unfolding text_at
told_by V p pair (Ok c) number close (is, closing) =
    ap₂ (λ (r : Reply) (k : Bool). answer_bytes (status_of r) None (body_text r) k) is closing
told_by V p pair (Err n) number close (is, closing) = absurd (cc)

pub texts_tell : TextsTellNumbers
texts_tell V x number close =
    (tells_wanted V x.unit x.pair x.wanted number close, told_by V x.unit x.pair x.wanted number close)

pub faults_tell : FaultsTellNoNumber
unfolding fault_text
faults_tell e number close same =
    (let number = number_of (refusal_of e) in refused_status number).apart None
    (refusal_text (number_of (refusal_of e))) (body_text (Number number)) true
    close same
