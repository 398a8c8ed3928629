-- The table of rights: its columns, its indexes, and how its rows stand for them; now, and before schema 4.
use Rattle.std.specs.Prelude.{List, [], ◌∷◌, codes, pos, None}
use Rattle.sqlite.specs.Kind.TheVariants.{Integer, Text as Words}
use Rattle.sqlite.specs.Order.{Row}
use Rattle.sqlite.specs.declared.types.Value.TheVariants.{Int, Text}
use Rattle.sqlite_schema.specs.declared.schema.Index.{Index}
use Rattle.sql_tables.specs.Codes.{row_of}
use Rattle.sql_tables.specs.Schema.{Descriptor, keyed_by, key_index, present, optional}
use Rattle.vault_core.specs.Keys.{Bytes}
use Rattle.vault_core.specs.Numbers.{right_number}
use Rattle.vault_core.specs.declared.right.Right.{Right}
use Rattle.vault_core.specs.declared.row.GrantRow.{GrantRow}
use Rattle.vault_schema.specs.Values.{number_or_null}

-- rights by caller, merchant and right, each with its end
abbrev pub rights : Descriptor
rights =
    keyed_by 3 19 (codes "rights4")
    (present (codes "caller") Words ∷ present (codes "merchant") Words ∷ present (codes "what") Integer
    ∷ optional (codes "ends") Integer ∷ [])

-- the index of its key
abbrev pub right_indexes : List Index
right_indexes = key_index 20 (codes "sqlite_autoindex_rights4_1") 19 (1 ∷ 2 ∷ 3 ∷ []) ∷ []

-- a caller, a merchant and a right
abbrev pub right_key : Bytes × (Bytes × Right) → Row
right_key key = Text key.0 ∷ Text key.1.0 ∷ Int (pos (right_number key.1.1)) ∷ []

-- the column of a right's end, or of none
abbrev pub ends_column : GrantRow → Row
ends_column g = number_or_null g.ends ∷ []

-- a right, behind its rowid
abbrev pub right_row : Bytes × (Bytes × Right) → GrantRow → Row
right_row = row_of right_key ends_column

-- ---- as they are read whole

-- ---- before schema 4

-- the table: rights, each its key alone
abbrev pub old_rights : Descriptor
old_rights =
    keyed_by 3 10 (codes "rights")
    (present (codes "caller") Words ∷ present (codes "merchant") Words ∷ present (codes "what") Integer ∷ [])

-- and the index of its key
abbrev pub old_right_indexes : List Index
old_right_indexes = key_index 11 (codes "sqlite_autoindex_rights_1") 10 (1 ∷ 2 ∷ 3 ∷ []) ∷ []

-- no columns behind a key
abbrev pub no_columns : Unit {0} → Row
no_columns it = []

-- a right is its key alone
abbrev pub old_right_row : Bytes × (Bytes × Right) → Unit {0} → Row
old_right_row = row_of right_key no_columns

-- what the older tables have of a right: that it is there
abbrev pub older_right : GrantRow → Unit {0}
older_right g = tt

-- a right of the older tables never ends
abbrev pub endless : Unit {0} → GrantRow
endless it = record { ends = None }
