-- The table of records: its columns, its index, and how its rows stand for them.
use Rattle.std.specs.Prelude.{ℕ, List, [], ◌∷◌, codes, pos, ◌≡◌}
use Rattle.sqlite.specs.Kind.TheVariants.{Integer, Text as Words}
use Rattle.sqlite.specs.Order.{Row, column}
use Rattle.sqlite.specs.declared.types.Value.TheVariants.{Int, Text}
use Rattle.sqlite_schema.specs.declared.schema.Index.{Index}
use Rattle.sql_tables.specs.Codes.{row_of}
use Rattle.sql_tables.specs.Schema.{Descriptor, keyed_by, key_index, present}
use Rattle.vault_core.specs.Keys.{Bytes}
use Rattle.vault_core.specs.Numbers.{use_number}
use Rattle.vault_core.specs.declared.row.Record.{Record}
use Rattle.vault_schema.specs.Values.{numbered_key}

-- records by caller and request
abbrev pub records : Descriptor
records =
    keyed_by 2 8 (codes "records")
    (present (codes "caller") Words ∷ present (codes "request") Integer ∷ present (codes "merchant") Words
    ∷ present (codes "token") Words ∷ present (codes "usage") Integer ∷ [])

-- the index of their key
abbrev pub record_indexes : List Index
record_indexes = key_index 9 (codes "sqlite_autoindex_records_1") 8 (1 ∷ 2 ∷ []) ∷ []

-- the columns of a record behind its key
abbrev pub record_columns : Record → Row
record_columns r = Text r.merchant ∷ Text r.token ∷ Int (pos (use_number r.usage)) ∷ []

-- a record, by its caller and its request
abbrev pub record_row : Bytes × ℕ → Record → Row
record_row = row_of numbered_key record_columns

-- ---- as they are read whole

-- a row has the columns of a record
pub record ShowsRecord (row : Row) (r : Record) : Type 0 where
  pub merchant : column row 0 ≡ Text r.merchant
  pub token : column row 1 ≡ Text r.token
  pub usage : column row 2 ≡ Int (pos (use_number r.usage))
