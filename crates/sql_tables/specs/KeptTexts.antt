-- The texts of rows that are kept.
use Rattle.std.specs.Prelude.{ℕ, List}
use Rattle.sql_tables.specs.Places.{bytes_at}
use Rattle.sql_tables.specs.declared.text.RowText.{RowText}

-- the bytes of a text
abbrev pub text_bytes : RowText → List ℕ
text_bytes text = bytes_at text.place
