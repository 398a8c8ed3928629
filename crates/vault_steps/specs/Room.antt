-- The tables between schema 1 and schema 2.
use Rattle.std.specs.Prelude.{◌≡◌, ◌++◌, true, List, [], ◌∷◌}
use Rattle.sqlite.specs.Order.{Row}
use Rattle.sqlite.specs.Tree.{rowid}
use Rattle.sqlite.specs.View.{is_int}
use Rattle.sqlite_rules.specs.Lists.{Has}
use Rattle.sql_tables.specs.States.{Claim, IsEmpty, at_place}
use Rattle.vault_schema.specs.Versions.{Lookups, first_claims}

-- those of cards and of entries that point at them came, and are empty
abbrev pub tables_made : Lookups → List Claim
tables_made h = (first_claims h ++ IsEmpty ∷ []) ++ IsEmpty ∷ []

-- each row has a number
abbrev pub AreNumbered : Claim
AreNumbered rows = (r : Row) → Has rows r → is_int (rowid r) ≡ true

-- and of the entries of schema 1 some may be gone
abbrev pub entries_going : Lookups → List Claim
entries_going h = at_place (tables_made h) 3 AreNumbered
