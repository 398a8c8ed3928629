-- Texts of digits as numbers.
use Rattle.std.specs.Prelude.{ℕ, ◌+◌, ◌-◌, ◌*◌, [], ◌∷◌}
use Rattle.vault_core.specs.Keys.{Bytes}

-- the digits from the last one to the first, behind a 1
abbrev pub packed : Bytes → ℕ
packed [] = 1
packed (digit ∷ digits) = packed digits * 10 + (digit - 48)

-- a merchant and a number: the number as one, and the merchant
abbrev pub key_number : Bytes × Bytes → ℕ × Bytes
key_number key = (packed key.1, key.0)
