-- Schemas whose database says its version, whatever else they have.
use Rattle.std.specs.Prelude.{◌≡◌, List, [], ◌∷◌, drop}
use Rattle.sqlite.specs.Schema.{Schema}
use Rattle.sqlite.specs.Table.{Table}
use Rattle.sqlite_schema.specs.declared.schema.Index.{Index}
use Rattle.sql_tables.specs.Schema.{table_of}
use Rattle.vault_schema.specs.VersionRows.{vault}

-- the table of the version, with others behind it and any indexes
abbrev pub versioned : List Table → List Index → Schema
versioned others indexes = record { tables = table_of vault ∷ others; indexes = indexes; views = [] }

-- the table of the version stands first, and there is no view
pub record HasVersion (s : Schema) : Type 0 where
  pub tables : s.tables ≡ table_of vault ∷ drop 1 s.tables
  pub views : s.views ≡ []
