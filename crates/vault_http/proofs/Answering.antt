-- Texts that are one text.
use Rattle.std.proofs.Common.{◌≡◌, ℕ, List, ap, ◌∙◌}
use Rattle.std.specs.Prelude.{Result, Ok, Err, Option, Bool, IfOk}
use Rattle.vault_wire.specs.Answer.{answer_bytes}

-- what is the one text is the other one
pub ok_as : {T E : Type 0} (r : Result T E) (f : T → List ℕ) (a b : List ℕ) → a ≡ b → IfOk r (λ t. f t ≡ a)
    → IfOk r (λ t. f t ≡ b)
ok_as (Ok t) f a b e h = h ∙ e
ok_as (Err x) f a b e h = tt

-- a text of the same status and the same body
pub written_text : (s t : ℕ) (m : Option (List ℕ)) (xs ys : List ℕ) (b : Bool) → s ≡ t → xs ≡ ys
    → answer_bytes s m xs b ≡ answer_bytes t m ys b
written_text s t m xs ys b code body =
    ap (λ n. answer_bytes n m xs b) code ∙ ap (λ zs. answer_bytes t m zs b) body
