-- The schema of a vault's database, of the newest version.
use Rattle.sqlite.specs.Schema.{Schema}
use Rattle.vault_schema.specs.Versions.{newest, schema_of}

-- all tables and indexes, with their trees
abbrev pub newest_schema : Schema
newest_schema = schema_of newest
