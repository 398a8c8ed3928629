-- Known bytes that are read and written piece by piece.
use Rattle.std.proofs.Common.{◌≡◌, ℕ, List, [], ◌++◌, take, Option, Some, None, refl, sym, ap, ◌∙◌, subst}
use Rattle.std.proofs.Common.{append_assoc, append-nil}
use Rattle.std.specs.Io.KnownBytes.{Consumes, Keeps}

pub consumes_nothing : (a : Option (List ℕ)) → Consumes a a []
consumes_nothing None = tt
consumes_nothing (Some a) = refl

pub consumes_both : (a b c : Option (List ℕ)) (xs ys : List ℕ) → Consumes a b xs → Consumes b c ys
    → Consumes a c (xs ++ ys)
consumes_both None b c xs ys p q = tt
consumes_both (Some a) (Some b) None xs ys p q = q
consumes_both (Some a) (Some b) (Some c) xs ys p q = rw (p, q) (sym (append_assoc xs ys c))
consumes_both (Some a) None c xs ys p q = absurd p

pub consumes_keeps : (a b c : Option (List ℕ)) (xs : List ℕ) → Consumes a b xs → Keeps b c → Consumes a c xs
consumes_keeps None b c xs p q = tt
consumes_keeps (Some a) None c xs p q = absurd p
consumes_keeps (Some a) (Some b) None xs p q = absurd q
consumes_keeps (Some a) (Some b) (Some c) xs p q = rw q p

-- with no bytes
pub consumes_none : (a b c : Option (List ℕ)) (xs ys : List ℕ) (n : ℕ) → Consumes a b xs → n ≡ 0
    → Consumes b c (take n ys) → Consumes a c xs
consumes_none a b c xs ys n p z q =
    let w : xs ++ take n ys ≡ xs = ap (λ k. xs ++ take k ys) z ∙ append-nil xs in
    subst (λ bs. Consumes a c bs) w (consumes_both a b c xs (take n ys) p q)
