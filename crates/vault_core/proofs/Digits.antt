-- The number that a few digits write.
use Rattle.std.proofs.Common.{◌≡◌, ◌+◌, ◌-◌, ◌*◌, ◌<◌, ◌≤◌, ◌^◌, ℕ, List, All, length, take, get_or, ◌≢◌}
use Rattle.std.proofs.Common.{arith, refl}
use Rattle.std.specs.Char.{IsAsciiDigit}
use Rattle.std.specs.Str.Parse.{digits_value}
use Rattle.std.proofs.lemmas.Int.Digits.{digits_value_more}
use Rattle.std.proofs.lemmas.Str.Parse.{digits_value-take-le, digits_value_short, numerals_by_value}
use Rattle.std.proofs.lemmas.Str.Parse.{tells_by_index}
use Rattle.std.proofs.lemmas.Str.{digit_value_digit}

-- 19 digits write less than 10 to the 19th
pub value_small : (digits : List ℕ) → length digits ≤ 19 → All IsAsciiDigit digits
    → digits_value 10 digits < 10 ^ 19
value_small digits few all =
    digits_value_short (numerals_by_value _ tells_by_index) digits 19 (λ i inside. all i 0 inside) few

-- so do their first ones
pub below_all : (digits : List ℕ) (i : ℕ) → length digits ≤ 19 → All IsAsciiDigit digits → i < length digits
    → digits_value 10 (take (i + 1) digits) < 10 ^ 19
below_all digits i few all inside =
    let most = digits_value-take-le 10 digits (i + 1) (omega arith) in
    let small = value_small digits few all in
    omega arith

-- one digit more
pub value_more : (digits : List ℕ) (i : ℕ) → All IsAsciiDigit digits → i < length digits
    → digits_value 10 (take (i + 1) digits) ≡ digits_value 10 (take i digits) * 10 + (get_or digits i 0 - 48)
value_more digits i all inside =
    let digit = digit_value_digit (get_or digits i 0) (all i 0 inside) in
    let more = digits_value_more 10 digits i inside in
    omega arith

-- digits without a leading zero write no zero
pub value_positive : (digits : List ℕ) → All IsAsciiDigit digits → 0 < length digits → get_or digits 0 0 ≢ 48
    → 1 ≤ digits_value 10 digits
value_positive digits all inside first =
    let lead = all 0 0 inside in
    let more = value_more digits 0 all inside in
    let least = digits_value-take-le 10 digits 1 (omega arith) in
    let front : digits_value 10 (take (0 + 1) digits) ≡ digits_value 10 (take 1 digits) = refl in
    omega (arith, more, least, lead, first, front)
