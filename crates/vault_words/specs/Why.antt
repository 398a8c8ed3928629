-- What is said of words that ask for no job.
use Rattle.std.specs.Prelude.{◌<◌, ℕ, List, filter, length}
use Rattle.std.specs.Char.{is_ascii_digit}

-- fewer than ten digits are in the text, so no card number is
abbrev pub HasFewDigits : List ℕ → Type 0
HasFewDigits text = length (filter is_ascii_digit text) < 10
