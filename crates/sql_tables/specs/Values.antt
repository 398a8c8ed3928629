-- Values of columns.
use Rattle.std.specs.Prelude.{◌≢◌, ℤ, Option, Some, None, string_bytes}
use Rattle.std.specs.declared.alloc.Global.{Global}
use Rattle.std.specs.declared.string.String.{String}
use Rattle.sqlite.specs.declared.types.Value.{Value}
use Rattle.sqlite.specs.declared.types.Value.TheVariants.{Null, Int, Text}
use Rattle.sql_tables.specs.KeptTexts.{text_bytes}
use Rattle.sql_tables.specs.declared.text.RowText.{RowText}

-- a whole number, or NULL
abbrev pub int_value : Option ℤ → Value
int_value None = Null
int_value (Some n) = Int n

-- a text
abbrev pub text_value : String Global → Value
text_value text = Text (string_bytes text)

-- one of a row that is kept
abbrev pub row_text_value : RowText → Value
row_text_value text = Text (text_bytes text)

-- and such a one, or NULL
abbrev pub maybe_text_value : Option RowText → Value
maybe_text_value None = Null
maybe_text_value (Some text) = Text (text_bytes text)

-- what no raw row shows, or no list of them
abbrev pub IsStrange : {R T : Type 0} → (R → T) → T → Type 0
IsStrange {R} values shown = (raw : R) → shown ≢ values raw
