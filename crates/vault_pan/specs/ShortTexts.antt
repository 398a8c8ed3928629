-- How a short text lies in its array: its bytes, and zeros after them. So two values with the same
-- bytes are the same value.
use Rattle.std.specs.Prelude.{ℕ, ◌-◌, List, ◌++◌, length, replicate}

-- the bytes, and zeros up to a length of n
abbrev pub padded : ℕ → List ℕ → List ℕ
padded n bytes = bytes ++ replicate (n - length bytes) 0
