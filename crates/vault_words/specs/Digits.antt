-- The text that stands for drawn digits.
use Rattle.std.specs.Prelude.{ℕ, ◌-◌, ◌%◌, ◌≤◌, List, All, length, map, slice_index}
use Rattle.std.specs.List.{range_with_len}
use Rattle.std.specs.Char.{IsAsciiDigit}

-- 1 to 300 digits
abbrev pub IsDigitText : List ℕ → Type 0
IsDigitText text = (1 ≤ length text) × (length text ≤ 300) × All IsAsciiDigit text

-- The text's digits by their values, repeated until there are n: at place i stands the digit at i
-- modulo the text's length. 48 is the code of the digit 0.
abbrev pub repeated : ℕ → List ℕ → List ℕ
repeated n text = map (λ i. slice_index text (i % length text) - 48) (range_with_len 0 n)
