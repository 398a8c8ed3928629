-- The table of merchants, now and before schema 3: its columns, indexes, and how its rows stand for lives.
use Rattle.std.specs.Prelude.{List, [], ◌∷◌, codes, pos, ◌≡◌}
use Rattle.sqlite.specs.Kind.TheVariants.{Integer, Text as Words}
use Rattle.sqlite.specs.Order.{Row, column}
use Rattle.sqlite.specs.declared.types.Value.TheVariants.{Int, Text}
use Rattle.sqlite_schema.specs.declared.schema.Index.{Index}
use Rattle.sql_tables.specs.Codes.{row_of}
use Rattle.sql_tables.specs.Schema.{Descriptor, keyed_by, key_index, present}
use Rattle.vault_pan.specs.Mask.{lead_digits}
use Rattle.vault_pan.specs.declared.lead.Lead.TheVariants.{Six}
use Rattle.vault_core.specs.Keys.{Bytes}
use Rattle.vault_core.specs.declared.row.Lives.{Lives}
use Rattle.vault_schema.specs.declared.rows.OldLives.{OldLives}

-- merchants by name, each with its lead
abbrev pub merchants : Descriptor
merchants =
    keyed_by 1 17 (codes "merchants3")
    (present (codes "name") Words ∷ present (codes "single_life") Integer
    ∷ present (codes "multi_life") Integer ∷ present (codes "moment") Integer
    ∷ present (codes "lead_digits") Integer ∷ [])

-- the index of its key
abbrev pub merchant_indexes : List Index
merchant_indexes = key_index 18 (codes "sqlite_autoindex_merchants3_1") 17 (1 ∷ []) ∷ []

-- a merchant's name
abbrev pub merchant_key : Bytes → Row
merchant_key m = Text m ∷ []

-- the columns of a merchant's lives, its moment and its lead
abbrev pub lives_columns : Lives → Row
lives_columns x =
    Int (pos x.single_life) ∷ Int (pos x.multi_life) ∷ Int (pos x.moment)
    ∷ Int (pos (lead_digits x.lead)) ∷ []

-- a merchant, behind its rowid
abbrev pub merchant_row : Bytes → Lives → Row
merchant_row = row_of merchant_key lives_columns

-- ---- as they are read whole

-- a row has the columns of a merchant's lives
pub record ShowsLives (row : Row) (x : Lives) : Type 0 where
  pub single_life : column row 0 ≡ Int (pos x.single_life)
  pub multi_life : column row 1 ≡ Int (pos x.multi_life)
  pub moment : column row 2 ≡ Int (pos x.moment)
  pub lead : column row 3 ≡ Int (pos (lead_digits x.lead))

-- ---- before schema 3

-- the table: merchants by name
abbrev pub old_merchants : Descriptor
old_merchants =
    keyed_by 1 1 (codes "merchants")
    (present (codes "name") Words ∷ present (codes "single_life") Integer
    ∷ present (codes "multi_life") Integer ∷ present (codes "moment") Integer ∷ [])

-- and the index of its key
abbrev pub old_merchant_indexes : List Index
old_merchant_indexes = key_index 2 (codes "sqlite_autoindex_merchants_1") 1 (1 ∷ []) ∷ []

-- the columns of a merchant's lives and moment
abbrev pub old_lives_columns : OldLives → Row
old_lives_columns x = Int (pos x.single_life) ∷ Int (pos x.multi_life) ∷ Int (pos x.moment) ∷ []

-- a merchant, behind its rowid
abbrev pub old_merchant_row : Bytes → OldLives → Row
old_merchant_row = row_of merchant_key old_lives_columns

-- what the older tables have of a merchant
abbrev pub older_lives : Lives → OldLives
older_lives x = record { single_life = x.single_life; multi_life = x.multi_life; moment = x.moment }

-- a merchant of the older tables: its masks show six digits at most
abbrev pub with_six : OldLives → Lives
with_six x =
    record { single_life = x.single_life; multi_life = x.multi_life; moment = x.moment; lead = Six }
