-- How values of columns stand for numbers, texts and ids, and keys that two tables share.
use Rattle.std.specs.Prelude.{ℕ, pos, [], ◌∷◌, Option, Some, None, ℤ}
use Rattle.sqlite.specs.Order.{Row}
use Rattle.sqlite.specs.declared.types.Value.{Value}
use Rattle.sqlite.specs.declared.types.Value.TheVariants.{Null, Int, Text}
use Rattle.vault_core.specs.Keys.{Bytes}

-- a text, or NULL
abbrev pub text_or_null : Option Bytes → Value
text_or_null None = Null
text_or_null (Some text) = Text text

-- a whole number, or NULL
abbrev pub number_or_null : Option ℕ → Value
number_or_null None = Null
number_or_null (Some n) = Int (pos n)

-- the id of a card, or NULL
abbrev pub id_or_null : Option ℤ → Value
id_or_null None = Null
id_or_null (Some id) = Int id

-- a text and a number: the merchant and the kind of a count, or the caller and the request of a record
abbrev pub numbered_key : Bytes × ℕ → Row
numbered_key key = Text key.0 ∷ Int (pos key.1) ∷ []

-- a row of one number
abbrev pub number_column : ℕ → Row
number_column n = Int (pos n) ∷ []
