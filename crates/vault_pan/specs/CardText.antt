-- Card numbers, tokens, and the texts that show a card number.
--
-- By ISO/IEC 7812-1 a primary account number is an issuer identification number, an individual
-- account identification and a check digit at the right end, at most 19 digits in all. That it has
-- at least 10, may begin with any digit, and may be shown with separators is this project's rule.
--
-- Digits stand here as their ASCII codes, 48 to 57, so a number is the same list in a value, in a
-- text and in a table.
use Rattle.std.specs.Prelude.{◌≡◌, ℕ, ◌-◌, ◌+◌, ◌<◌, ◌≤◌, ◌||◌, ◌⊎◌, ◌==◌, List, length, filter, All}
use Rattle.std.specs.Prelude.{IsTrue, slice_index, drop, true, false, Bool, nat_eq, ◌&&◌}
use Rattle.std.specs.Cmp.Lexicographic.{pointwise}
use Rattle.std.specs.Char.{IsAsciiDigit, is_ascii_digit}
use Rattle.vault_pan.specs.Luhn.{passes_check}

-- whether two lists of bytes are the same
abbrev pub same : List ℕ → List ℕ → Bool
same = pointwise nat_eq

-- a digit stands at this index of a text
abbrev pub HasDigit : List ℕ → ℕ → Type 0
HasDigit text i = (i < length text) × IsAsciiDigit (slice_index text i)

-- a space (32) or a hyphen (45) stands at this index, with a digit on either side
abbrev pub Separates : List ℕ → ℕ → Type 0
Separates text i =
    IsTrue (slice_index text i == 32 || slice_index text i == 45)
    × (0 < i) × HasDigit text (i - 1) × HasDigit text (i + 1)

-- A text of at least one digit, with nothing, one space or one hyphen between two neighbours and
-- nothing elsewhere: each of its bytes is a digit, or separates two.
abbrev pub IsCardText : List ℕ → Type 0
IsCardText text =
    (0 < length text)
    × ((i : ℕ) → i < length text → HasDigit text i ⊎ Separates text i)

-- the digits of a text, in order
abbrev pub digits_of : List ℕ → List ℕ
digits_of text = filter is_ascii_digit text

-- 10 to 19 digits
abbrev pub IsNumber : List ℕ → Type 0
IsNumber digits = (10 ≤ length digits) × (length digits ≤ 19) × All IsAsciiDigit digits

-- a card number: 10 to 19 digits that pass the check
abbrev pub IsPan : List ℕ → Type 0
IsPan digits = IsNumber digits × (passes_check digits ≡ true)

-- A token: 10 to 19 digits that fail the check. So no token is a card number.
abbrev pub IsToken : List ℕ → Type 0
IsToken digits = IsNumber digits × (passes_check digits ≡ false)

-- the last four digits
abbrev pub last_four : List ℕ → List ℕ
last_four digits = drop (length digits - 4) digits

-- whether a token has a number's length and its last four digits
abbrev pub fits : List ℕ → List ℕ → Bool
fits token number = length token == length number && same (last_four token) (last_four number)
