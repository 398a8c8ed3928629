-- Three fields of a record.
use Rattle.std.proofs.Common.{◌≡◌, List, [], ◌∷◌, length, Option, Some, None, ap, ◌∙◌, arith}
use Rattle.std.specs.Prelude.{IfNone}
use Rattle.csv.specs.Records.{field_at}
use Rattle.vault_core.specs.Keys.{Bytes}

some_is : {X : Type 0} (x y : X) → Some x ≡ Some y → x ≡ y
some_is x y e = cc

-- the fields of a record that has three
pub three_fields : (fs : List Bytes) (a b c : Bytes) → length fs ≡ 3 → field_at fs 0 ≡ Some a
    → field_at fs 1 ≡ Some b → field_at fs 2 ≡ Some c → fs ≡ a ∷ b ∷ c ∷ []
unfolding field_at
three_fields [] a b c n p q r = absurd (cc)
three_fields (x ∷ []) a b c n p q r = absurd (cc)
three_fields (x ∷ y ∷ []) a b c n p q r = absurd (cc)
three_fields (x ∷ y ∷ z ∷ []) a b c n p q r =
    ap (λ h. h ∷ y ∷ z ∷ []) (some_is x a p) ∙ ap (λ h. a ∷ h ∷ z ∷ []) (some_is y b q)
    ∙ ap (λ h. a ∷ b ∷ h ∷ []) (some_is z c r)
three_fields (x ∷ y ∷ z ∷ t ∷ more) a b c n p q r = let e : ⊥ = omega (arith, n) in absurd e

-- a record that has three fields has each of them
pub no_first : (fs : List Bytes) → length fs ≡ 3 → field_at fs 0 ≡ None → ⊥
unfolding field_at
no_first [] n p = absurd (cc)
no_first (x ∷ fs) n p = absurd (cc)

pub no_second : (fs : List Bytes) → length fs ≡ 3 → field_at fs 1 ≡ None → ⊥
unfolding field_at
no_second [] n p = absurd (cc)
no_second (x ∷ []) n p = absurd (cc)
no_second (x ∷ y ∷ fs) n p = absurd (cc)

pub no_third : (fs : List Bytes) → length fs ≡ 3 → field_at fs 2 ≡ None → ⊥
unfolding field_at
no_third [] n p = absurd (cc)
no_third (x ∷ []) n p = absurd (cc)
no_third (x ∷ y ∷ []) n p = absurd (cc)
no_third (x ∷ y ∷ z ∷ fs) n p = absurd (cc)

-- what holds anyway holds with none
pub if_none : {X : Type 0} (r : Option X) (P : Type 0) → P → IfNone r P
if_none None P p = p
if_none (Some x) P p = tt
