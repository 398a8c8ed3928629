-- What the tests of the statements come to.
use Rattle.std.proofs.Common.{◌≡◌, ℕ, ℤ, pos, Bool, true, ◌&&◌, is_eq, int_cmp, arith, nat_cmp, Ordering}
use Rattle.std.proofs.Common.{Equal, List}
use Rattle.std.proofs.lemmas.Bool.Decides.{nat_tests}
use Rattle.std.proofs.lemmas.Int.{ints}
use Rattle.std.specs.Ordering.{ordering_then}
use Rattle.sqlite.specs.Collation.TheVariants.{Binary}
use Rattle.sqlite.specs.Ops.{binary, is_true}
use Rattle.sqlite.specs.declared.types.Value.TheVariants.{Int, Text}
use Rattle.sqlite_sql.specs.declared.ops.BinaryOp.TheVariants.{Compare}
use Rattle.sqlite_sql.specs.declared.ops.CompareOp.TheVariants.{Eq}
use Rattle.sqlite_value.proofs.OrderLemmas.{value_cmp-Text, value_cmp-Int}
use Rattle.std.specs.Cmp.Lexicographic.{slice_cmp}

pub equal_is : (o : Ordering) → is_eq o ≡ true → o ≡ Equal
equal_is o h = grind arith

pub text_eq : (a b : List ℕ)
    → is_true (binary (Compare Eq Binary) (Text a) (Text b)) ≡ is_eq (slice_cmp nat_cmp a b)
unfolding binary
text_eq a b =
    rw value_cmp-Text (grind arith)

pub int_eq : (a b : ℤ) → is_true (binary (Compare Eq Binary) (Int a) (Int b)) ≡ is_eq (int_cmp a b)
unfolding binary
int_eq a b =
    rw value_cmp-Int (grind arith)

pub number_eq : (a b : ℕ)
    → is_true (binary (Compare Eq Binary) (Int (pos a)) (Int (pos b))) ≡ is_eq (nat_cmp a b)
number_eq a b = rw (int_eq (pos a) (pos b)) (grind (arith, ints, nat_tests))

pub then_eq : (a b : Ordering) → is_eq (ordering_then a b) ≡ (is_eq a && is_eq b)
then_eq a b = grind arith

pub and_true : (a : Bool) → (a && true) ≡ a
and_true a = grind arith

-- two tests, and nothing else
pub two_tests : (a b : Ordering) → (is_eq a && (is_eq b && true)) ≡ is_eq (ordering_then a b)
two_tests a b = grind arith

pub three_tests : (a b c : Ordering)
    → (is_eq a && (is_eq b && (is_eq c && true))) ≡ is_eq (ordering_then a (ordering_then b c))
three_tests a b c = grind arith
