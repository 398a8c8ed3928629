-- Rows of which each is tested, one after the other.
use Rattle.std.proofs.Common.{◌≡◌, ◌∙◌, ◌+◌, ◌<◌, ◌&&◌, ℕ, zero, suc, Bool, true, false, cond}
use Rattle.std.proofs.Common.{List, [], ◌∷◌, ◌++◌}
use Rattle.std.proofs.Common.{length, drop, get_or, is_some, Some, refl, sym, ap, arith}
use Rattle.std.proofs.Math.Seq.{drop-cons}
use Rattle.std.proofs.lemmas.Bool.{and_parts}
use Rattle.vault_rules.proofs.RisingNumbers.{regroup, with_true}
use Rattle.std.specs.Prelude.{bytes_eq, string_bytes}
use Rattle.std.specs.List.{list_all}
use Rattle.vault_rules.specs.Lookups.{is_known, merchant_of}
use Rattle.vault_rules.specs.declared.rows.RawMerchant.{RawMerchant}
use Rattle.vault_rules.proofs.Found.{bytes_same}

-- the rows from one on, of which it is the first
all_from_here : {X : Type 0} (p : X → Bool) (xs : List X) (i : ℕ) (x : X) → i < length xs → x ≡ get_or xs i x
    → list_all p (drop i xs) ≡ p x && list_all p (drop (i + 1) xs)
all_from_here p xs i x inside is =
    let next : suc i ≡ i + 1 = omega arith in
    ap (list_all p) (drop-cons xs i x inside) ∙ (λ k. p (sym is k) && list_all p (drop (next k) xs))

pub all_on : {X : Type 0} (p : X → Bool) (xs : List X) (i : ℕ) (x : X) → i < length xs → x ≡ get_or xs i x
    → p x ≡ true → list_all p (drop i xs) ≡ list_all p xs → list_all p (drop (i + 1) xs) ≡ list_all p xs
all_on p xs i x inside is holds so_far =
    ap (λ b. b && list_all p (drop (i + 1) xs)) (sym holds) ∙ sym (all_from_here p xs i x inside is) ∙ so_far

pub all_off : {X : Type 0} (p : X → Bool) (xs : List X) (i : ℕ) (x : X) → i < length xs → x ≡ get_or xs i x
    → p x ≡ false → list_all p (drop i xs) ≡ list_all p xs → false ≡ list_all p xs
all_off p xs i x inside is fails so_far =
    ap (λ b. b && list_all p (drop (i + 1) xs)) (sym fails) ∙ sym (all_from_here p xs i x inside is) ∙ so_far

-- a merchant among merchants exists
pub known_there : (merchants : List RawMerchant) (i : ℕ) (m : RawMerchant) → i < length merchants
    → m ≡ get_or merchants i m → is_known merchants (string_bytes m.name) ≡ true
known_there [] i m inside is = absurd (omega (arith, inside))
known_there (x ∷ merchants) zero m inside is =
    ap (λ b. is_some (cond b (Some x) (merchant_of merchants (string_bytes m.name))))
    (bytes_same (string_bytes x.name) (string_bytes m.name)
    (ap (λ (r : RawMerchant). string_bytes r.name) (sym is)))
known_there (x ∷ merchants) (suc i) m inside is =
    let rest = known_there merchants i m (omega (arith, inside)) is in
    elim (bytes_eq (string_bytes x.name) (string_bytes m.name))
    as (λ b. is_some (cond b (Some x) (merchant_of merchants (string_bytes m.name))) ≡ true) [
      | true ↦ refl
      | false ↦ rest
    ]

-- all of some and one more
pub all_more : {X : Type 0} (p : X → Bool) (xs : List X) (x : X)
    → list_all p (xs ++ x ∷ []) ≡ list_all p xs && p x
all_more p [] x = with_true (p x)
all_more p (y ∷ xs) x = ap (λ b. p y && b) (all_more p xs x) ∙ regroup (p y) (list_all p xs) (p x)

pub all_first : {X : Type 0} (p : X → Bool) (xs : List X) (x : X) → list_all p (xs ++ x ∷ []) ≡ true
    → list_all p xs ≡ true
all_first p xs x all = (and_parts _ _ (sym (all_more p xs x) ∙ all)).0

pub all_last : {X : Type 0} (p : X → Bool) (xs : List X) (x : X) → list_all p (xs ++ x ∷ []) ≡ true
    → p x ≡ true
all_last p xs x all = (and_parts _ _ (sym (all_more p xs x) ∙ all)).1
