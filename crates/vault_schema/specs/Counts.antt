-- The table of counts: its columns, its index, and how its rows stand for totals.
use Rattle.std.specs.Prelude.{ℕ, List, [], ◌∷◌, codes}
use Rattle.sqlite.specs.Kind.TheVariants.{Integer, Text as Words}
use Rattle.sqlite.specs.Order.{Row}
use Rattle.sqlite_schema.specs.declared.schema.Index.{Index}
use Rattle.sql_tables.specs.Codes.{row_of}
use Rattle.sql_tables.specs.Schema.{Descriptor, keyed_by, key_index, present}
use Rattle.vault_core.specs.Keys.{Bytes}
use Rattle.vault_schema.specs.Values.{number_column, numbered_key}

-- counts by merchant and kind
abbrev pub counts : Descriptor
counts =
    keyed_by 2 3 (codes "counts")
    (present (codes "merchant") Words ∷ present (codes "kind") Integer ∷ present (codes "total") Integer ∷ [])

-- the index of their key
abbrev pub count_indexes : List Index
count_indexes = key_index 4 (codes "sqlite_autoindex_counts_1") 3 (1 ∷ 2 ∷ []) ∷ []

-- a count, by its merchant and its kind
abbrev pub count_row : Bytes × ℕ → ℕ → Row
count_row = row_of numbered_key number_column

-- ---- as they are read whole
