-- Whose tables a database has.
use Rattle.std.specs.Prelude.{◌≡◌, ◌⊎◌, ◌||◌, ℕ, Bool, List, [], length, map, not, IsTrue}
use Rattle.std.specs.List.{list_any}
use Rattle.std.specs.Option.{is_some}
use Rattle.sqlite.specs.Schema.{Schema}
use Rattle.sqlite_schema.specs.Names.{table_named, index_named, view_named}
use Rattle.sql_tables.specs.Schema.{no_schema}
use Rattle.vault_verdict.specs.declared.owners.Holder.{Holder}
use Rattle.vault_verdict.specs.declared.owners.Holder.TheVariants.{Nobody, Vault, Mixed, Other}
use Rattle.vault_schema.specs.Schema.{newest_schema}
use Rattle.vault_schema.specs.declared.version.TheConstants.{NAMES}

-- a table, an index, or a view or another object has this name, as SQL compares names
abbrev pub is_taken : Schema → List ℕ → Bool
is_taken s name = is_some (table_named s name) || is_some (index_named s name) || is_some (view_named s name)

-- the names of a vault's tables, and of the indexes that aren't a key's
abbrev pub vault_names : List (List ℕ)
vault_names = map (λ name. name.now) NAMES

-- one of these names is taken
abbrev pub any_taken : Schema → List (List ℕ) → Bool
any_taken s names = list_any (λ name. is_taken s name) names

-- one of them is missing
abbrev pub any_missing : Schema → List (List ℕ) → Bool
any_missing s names = list_any (λ name. not (is_taken s name)) names

-- there are no more and no fewer than the tables and indexes of a vault
pub record IsNumbered (s : Schema) : Type 0 where
  pub tables : length s.tables ≡ length newest_schema.tables
  pub indexes : length s.indexes ≡ length newest_schema.indexes
  pub views : s.views ≡ []

-- some of these names are taken, and not all of them, or others stand beside them
pub record IsMixed (s : Schema) (names : List (List ℕ)) : Type 0 where
  pub some : IsTrue (any_taken s names)
  pub partly : IsTrue (any_missing s names) ⊎ (¬ IsNumbered s)

-- there is something, which isn't the schema of a vault
pub record IsForeign (s : Schema) : Type 0 where
  pub some : ¬ (s ≡ no_schema)
  pub other : ¬ (s ≡ newest_schema)

-- whose tables there are
abbrev pub IsOf : Holder → Schema → Type 0
IsOf Nobody s = s ≡ no_schema
IsOf Vault s = s ≡ newest_schema
IsOf Mixed s = IsForeign s × IsMixed s vault_names
IsOf Other s = IsForeign s × (¬ IsMixed s vault_names)
