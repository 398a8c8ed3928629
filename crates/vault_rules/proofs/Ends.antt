-- The ends of rights.
use Rattle.std.proofs.Common.{◌≡◌, ℕ, ℤ, pos, true, Option, Some, None, option_map, refl, ap, arith}
use Rattle.std.specs.Prelude.{IfSome}
use Rattle.std.specs.Option.{option_map_or}
use Rattle.vault_core.specs.Scalar.{IsMoment}
use Rattle.vault_rules.specs.Codes.{natural}
use Rattle.vault_rules.specs.Rules.{is_within}
use Rattle.vault_rules.proofs.Numbers.{within_is, within_from}

-- an end that keeps its rule is a number that isn't negative
pub ends_are : (o : Option ℤ) → option_map_or (is_within (pos 0) (pos 253402300799)) o true ≡ true
    → o ≡ option_map pos (option_map natural o)
ends_are None h = refl
ends_are (Some z) h = ap (λ x. Some x) (within_is 0 253402300799 z h).is

-- and a moment
pub ends_sound : (o : Option ℤ) → option_map_or (is_within (pos 0) (pos 253402300799)) o true ≡ true
    → IfSome (option_map natural o) IsMoment
ends_sound None h = tt
ends_sound (Some z) h = (within_is 0 253402300799 z h).high_is

-- a moment keeps the rule of ends
pub ends_from : (o : Option ℕ) → IfSome o IsMoment
    → option_map_or (is_within (pos 0) (pos 253402300799)) (option_map pos o) true ≡ true
ends_from None h = refl
ends_from (Some n) h = within_from 0 253402300799 n (pos n) refl (omega arith) h
