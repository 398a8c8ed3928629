-- The check digit of a card number: the Luhn formula (modulus 10, "double-add-double") of
-- ISO/IEC 7812-1, annex B, over ASCII digits.
--
-- Places are counted from the right, from 1, which is the check digit's own place. A sum over
-- places: no order in which they are gone through, and no running total.
use Rattle.std.specs.Prelude.{Bool, ℕ, zero, suc, ◌+◌, ◌-◌, ◌*◌, ◌%◌, List, length, slice_index, nat_lt}
use Rattle.std.specs.Prelude.{◌==◌, if◌then◌else◌}

-- the digit at a place, by its value
abbrev pub digit_at : List ℕ → ℕ → ℕ
digit_at digits place = slice_index digits (length digits - place) - 48

-- a doubled digit, less 9 where the double is above 9
abbrev pub doubled : ℕ → ℕ
doubled digit = if nat_lt 9 (2 * digit) then 2 * digit - 9 else 2 * digit

-- what a digit adds to the sum: at an odd place itself, at an even place its double
abbrev pub worth_of : Bool → ℕ → ℕ
worth_of even digit = if even then doubled digit else digit

-- what a place adds to the sum
abbrev pub worth : List ℕ → ℕ → ℕ
worth digits place = worth_of (place % 2 == 0) (digit_at digits place)

-- the sum over the places 1 to n
abbrev pub worths : List ℕ → ℕ → ℕ
worths digits zero = 0
worths digits (suc n) = worths digits n + worth digits (suc n)

-- whether the sum over all places is a multiple of 10
abbrev pub passes_check : List ℕ → Bool
passes_check digits = worths digits (length digits) % 10 == 0
