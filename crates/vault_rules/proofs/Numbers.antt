-- Whole numbers between limits.
use Rattle.std.proofs.Common.{◌≡◌, ℕ, ℤ, pos, negsuc, ◌<◌, ◌≤◌, true, refl, sym, ap, ◌∙◌, arith, true≢false}
use Rattle.std.specs.Prelude.{nat_lt}
use Rattle.std.proofs.Math.Dec.{leb}
use Rattle.std.specs.Int.RustNames.{int_le}
use Rattle.std.specs.Ordering.{int_eq}
use Rattle.std.proofs.lemmas.Bool.{and_parts, and_from}
use Rattle.std.proofs.lemmas.Bool.Decides.{nat_tests, Decides-int_eq}
use Rattle.vault_rules.specs.Codes.{natural}
use Rattle.vault_rules.specs.Rules.{is_within}

-- what lies between two natural numbers is one
pub record IsBetween (low high : ℕ) (z : ℤ) : Type 0 where
  pub is : z ≡ pos (natural z)
  pub low_is : low ≤ natural z
  pub high_is : natural z ≤ high

pub within_is : (low high : ℕ) (z : ℤ) → is_within (pos low) (pos high) z ≡ true → IsBetween low high z
within_is low high (pos n) e =
    let parts = and_parts (leb low n) (leb n high) e in
    record {
      is = refl;
      low_is = let h = parts.0 in grind (arith, nat_tests);
      high_is = let h = parts.1 in grind (arith, nat_tests);
    }
within_is low high (negsuc n) e = absurd (true≢false (sym e))

pub within_from : (low high n : ℕ) (z : ℤ) → z ≡ pos n → low ≤ n → n ≤ high
    → is_within (pos low) (pos high) z ≡ true
within_from low high n z is l h =
    ap (is_within (pos low) (pos high)) is
    ∙ and_from (leb low n) (leb n high) (grind (arith, nat_tests)) (grind (arith, nat_tests))

pub int_is : (x y : ℤ) → int_eq x y ≡ true → x ≡ y
int_is x y = (Decides-int_eq x y).0

pub int_same : (x y : ℤ) → x ≡ y → int_eq x y ≡ true
int_same x y = (Decides-int_eq x y).1

pub below_is : (m n : ℕ) → nat_lt m n ≡ true → m < n
below_is m n h = grind (arith, nat_tests)

pub below_from : (m n : ℕ) → m < n → nat_lt m n ≡ true
below_from m n h = grind (arith, nat_tests)

pub pos_same : {m n : ℕ} → pos m ≡ pos n → m ≡ n
pos_same h = cc

pub le_is : (m n : ℕ) → int_le (pos m) (pos n) ≡ true → m ≤ n
le_is m n h = grind (arith, nat_tests)

pub le_from : (m n : ℕ) → m ≤ n → int_le (pos m) (pos n) ≡ true
le_from m n h = grind (arith, nat_tests)
