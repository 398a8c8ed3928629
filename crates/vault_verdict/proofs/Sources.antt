-- What a value tells of what it was made from.
use Rattle.std.proofs.Common.{◌≡◌, ◌<◌, ℕ, ℤ, pos, Option, Some, None, option_map, refl}
use Rattle.std.proofs.Common.{arith}
use Rattle.std.proofs.lemmas.Bool.Decides.{nat_tests}
use Rattle.std.proofs.lemmas.Grind.{common_steps}
use Rattle.vault_schema.specs.Stands.{unless_zero}
use Rattle.vault_schema.specs.Values.{number_or_null}
use Rattle.sql_tables.specs.Values.{int_value}

-- a count that has no row is 0
pub none_unless : (n : ℕ) → unless_zero n ≡ None → n ≡ 0
none_unless n e = grind (arith, nat_tests, common_steps)

-- a count that has a row isn't 0, and is its total
pub some_unless : (n x : ℕ) → unless_zero n ≡ Some x → (n ≡ x) × (0 < n)
some_unless n x e = (grind (arith, nat_tests, common_steps), grind (arith, nat_tests, common_steps))

-- a count that isn't 0 has one
pub unless_some : (n : ℕ) → 0 < n → unless_zero n ≡ Some n
unless_some n low = grind (arith, nat_tests, common_steps)

pub same_count : (n m : ℕ) → unless_zero n ≡ unless_zero m → n ≡ m
same_count n m same = grind (arith, nat_tests, common_steps)

-- a moment, or none, in its column and back
pub moment_as : (o : Option ℕ) → int_value (option_map pos o) ≡ number_or_null o
moment_as None = refl
moment_as (Some n) = refl

pub moment_told : (o : Option ℤ) (n : Option ℕ) → int_value o ≡ number_or_null n → o ≡ option_map pos n
moment_told None None e = refl
moment_told None (Some n) e = absurd cc
moment_told (Some o) None e = absurd cc
moment_told (Some o) (Some n) e = cc
