-- The table of entries: its columns, its indexes, and how its rows stand for them; now, and in schema 1.
use Rattle.std.specs.Prelude.{◌+◌, ℕ, List, [], ◌∷◌, codes, pos, Option, ◌≡◌}
use Rattle.sqlite.specs.Kind.TheVariants.{Integer, Text as Words}
use Rattle.sqlite.specs.Order.{Row, column}
use Rattle.sqlite.specs.declared.types.Value.TheVariants.{Int, Text}
use Rattle.sqlite_schema.specs.declared.schema.Column.{Column}
use Rattle.sqlite_schema.specs.declared.schema.Index.{Index}
use Rattle.sql_tables.specs.Codes.{row_of}
use Rattle.sql_tables.specs.Schema.{Descriptor, keyed_by, key_index, plain_index, present, optional}
use Rattle.vault_core.specs.Keys.{Bytes}
use Rattle.vault_core.specs.Numbers.{use_number}
use Rattle.vault_core.specs.declared.row.Entry.{Entry}
use Rattle.vault_core.specs.declared.usage.Use.{Use}
use Rattle.vault_schema.specs.Values.{id_or_null, number_or_null, text_or_null}
use Rattle.vault_schema.specs.declared.rows.Pointing.{Pointing}

-- a table of entries by merchant and token, with a column of what each stands for
abbrev pub entries_at : ℕ → Bytes → Column → Descriptor
entries_at tree name stands =
    keyed_by 2 tree name
    (present (codes "merchant") Words ∷ present (codes "token") Words ∷ stands
    ∷ present (codes "usage") Integer ∷ present (codes "birth") Integer
    ∷ present (codes "expires") Integer ∷ optional (codes "revoked") Integer ∷ [])

-- the indexes of a table of entries: that of its key, and that of merchant and what each entry stands for
abbrev pub entry_indexes_at : ℕ → Bytes → Bytes → List Index
entry_indexes_at tree key stands =
    key_index (tree + 1) key tree (1 ∷ 2 ∷ []) ∷ plain_index (tree + 2) stands tree (1 ∷ 3 ∷ []) ∷ []

-- entries by merchant and token, each with the id of its card
abbrev pub entries : Descriptor
entries = entries_at 14 (codes "entries2") (optional (codes "card") Integer)

-- and their indexes
abbrev pub entry_indexes : List Index
entry_indexes = entry_indexes_at 14 (codes "sqlite_autoindex_entries2_1") (codes "entries2_card")

-- a merchant and a token
abbrev pub entry_key : Bytes × Bytes → Row
entry_key key = Text key.0 ∷ Text key.1 ∷ []

-- the columns of an entry behind what it stands for: its use, its birth, its end, and when it was revoked
abbrev pub life_columns : Use → ℕ → ℕ → Option ℕ → Row
life_columns usage birth expires revoked =
    Int (pos (use_number usage)) ∷ Int (pos birth) ∷ Int (pos expires) ∷ number_or_null revoked ∷ []

-- the columns of an entry behind its key
abbrev pub pointing_columns : Pointing → Row
pointing_columns e = id_or_null e.card ∷ life_columns e.usage e.birth e.expires e.revoked

-- an entry, by its merchant and its token
abbrev pub pointing_row : Bytes × Bytes → Pointing → Row
pointing_row = row_of entry_key pointing_columns

-- ---- as they are read whole

-- ---- those of schema 1, each with its number

-- the table
abbrev pub old_entries : Descriptor
old_entries = entries_at 5 (codes "entries") (optional (codes "number") Words)

-- and its indexes
abbrev pub old_entry_indexes : List Index
old_entry_indexes = entry_indexes_at 5 (codes "sqlite_autoindex_entries_1") (codes "entries_number")

-- the columns of an entry behind its key
abbrev pub entry_columns : Entry → Row
entry_columns e = text_or_null e.number ∷ life_columns e.usage e.birth e.expires e.revoked

-- an entry, by its merchant and its token
abbrev pub entry_row : Bytes × Bytes → Entry → Row
entry_row = row_of entry_key entry_columns

-- ---- as they are read whole

-- a row has the columns of an entry that points at a card
pub record ShowsPointing (row : Row) (e : Pointing) : Type 0 where
  pub card : column row 0 ≡ id_or_null e.card
  pub usage : column row 1 ≡ Int (pos (use_number e.usage))
  pub birth : column row 2 ≡ Int (pos e.birth)
  pub expires : column row 3 ≡ Int (pos e.expires)
  pub revoked : column row 4 ≡ number_or_null e.revoked
