-- Numbers that rise, and one more.
use Rattle.std.proofs.Common.{◌≡◌, ◌∙◌, ◌&&◌, ℤ, Bool, true, false, List, [], ◌∷◌, ◌++◌, Some, refl, ap}
use Rattle.std.specs.Int.RustNames.{int_lt}
use Rattle.std.specs.Option.{option_map_or}
use Rattle.vault_rules.specs.RisingNumbers.{are_rising, last_of}

pub last_more : (numbers : List ℤ) (x : ℤ) → last_of (numbers ++ x ∷ []) ≡ Some x
last_more [] x = refl
last_more (first ∷ []) x = refl
last_more (first ∷ next ∷ rest) x = last_more (next ∷ rest) x

pub regroup : (a b c : Bool) → a && (b && c) ≡ (a && b) && c
regroup true b c = refl
regroup false b c = refl

pub with_true : (a : Bool) → a && true ≡ a
with_true true = refl
with_true false = refl

pub rising_more : (numbers : List ℤ) (x : ℤ) → are_rising (numbers ++ x ∷ [])
    ≡ are_rising numbers && option_map_or (λ one. int_lt one x) (last_of numbers) true
rising_more [] x = refl
rising_more (first ∷ []) x = with_true (int_lt first x)
rising_more (first ∷ next ∷ rest) x =
    ap (λ b. int_lt first next && b) (rising_more (next ∷ rest) x)
    ∙ regroup (int_lt first next) (are_rising (next ∷ rest))
    (option_map_or (λ one. int_lt one x) (last_of (next ∷ rest)) true)
