-- One pass from the left computes the sum over the places.
use Rattle.std.proofs.Common.{◌≡◌, ℕ, suc, ◌+◌, ◌-◌, ◌%◌, ◌<◌, ◌==◌, List, length, slice_index, arith, ap}
use Rattle.std.proofs.Common.{sym, ◌∙◌, not}
use Rattle.std.proofs.lemmas.Bool.Decides.{nat_tests}
use Rattle.vault_pan.specs.Luhn.{worths, worth_of}

-- the place of index i, with those to its right
pub worths-index : (digits : List ℕ) (i : ℕ) → i < length digits
    → worths digits (length digits - i)
    ≡ worths digits (length digits - (i + 1))
    + worth_of ((length digits - i) % 2 == 0) (slice_index digits i - 48)
worths-index digits i inside =
    let m = length digits - (i + 1) in
    let e : length digits - i ≡ suc m = omega arith in
    let back : length digits - suc m ≡ i = omega arith in
    rw e (ap (λ k. worths digits m + worth_of (suc m % 2 == 0) (slice_index digits k - 48)) back)

-- A turn of the loop: a digit's worth goes from the places that are left to the sum so far, which is
-- kept below 10.
pub step : (digits : List ℕ) (i sum w total : ℕ) → i < length digits
    → w ≡ worth_of ((length digits - i) % 2 == 0) (slice_index digits i - 48)
    → (sum + worths digits (length digits - i)) % 10 ≡ total
    → ((sum + w) % 10 + worths digits (length digits - (i + 1))) % 10 ≡ total
step digits i sum w total inside is rest =
    let e = worths-index digits i inside in
    let more : worths digits (length digits - i) ≡ worths digits (length digits - (i + 1)) + w =
    e ∙ ap (λ x. worths digits (length digits - (i + 1)) + x) (sym is) in
    omega (arith, more, rest)

-- even and odd places take turns
pub turns : (n i : ℕ) → i < n → not ((n - i) % 2 == 0) ≡ ((n - (i + 1)) % 2 == 0)
turns n i inside = grind (arith, nat_tests)
