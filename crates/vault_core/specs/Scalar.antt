-- Moments, lives and request numbers.
use Rattle.std.specs.Prelude.{◌≢◌, ℕ, ◌≤◌, List, All, length, slice_index}
use Rattle.std.specs.Char.{IsAsciiDigit}
use Rattle.std.specs.Str.Parse.{digits_value}
use Rattle.vault_core.specs.declared.limit.TheConstants.{LONGEST_LIFE, LAST_MOMENT}
use Rattle.vault_core.specs.declared.request.TheConstants.{LAST_REQUEST}

-- whole seconds since 1970, to the end of the year 9999
abbrev pub IsMoment : ℕ → Type 0
IsMoment n = n ≤ LAST_MOMENT

-- a life of at most 100 years, in seconds; 0 says that the use isn't offered
abbrev pub IsLife : ℕ → Type 0
IsLife n = n ≤ LONGEST_LIFE

-- the number of a request
abbrev pub IsRequest : ℕ → Type 0
IsRequest n = (1 ≤ n) × (n ≤ LAST_REQUEST)

-- 1 to 19 digits without a leading zero that write the number of a request
abbrev pub IsRequestText : List ℕ → Type 0
IsRequestText text =
    (1 ≤ length text) × (length text ≤ 19) × All IsAsciiDigit text × (slice_index text 0 ≢ 48)
    × IsRequest (digits_value 10 text)
