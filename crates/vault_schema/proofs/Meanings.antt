-- What the texts mean by which a version makes tables, and replaces one.
use Rattle.std.proofs.Common.{◌≡◌, ◌∷◌, ℕ, List, [], pos}
use Rattle.sqlite.specs.Change.{created}
use Rattle.sqlite.specs.Query.{Query}
use Rattle.sqlite.specs.Schema.{Schema}
use Rattle.sqlite.specs.Table.{Table}
use Rattle.sqlite.specs.Term.{Term, col, lit}
use Rattle.sqlite.specs.declared.types.Value.TheVariants.{Int, Null}
use Rattle.sql_tables.proofs.Full.{all_columns}
use Rattle.sql_tables.specs.Schema.{Descriptor, table_of}
use Rattle.sql_tables.specs.Texts.{IsWrite, MakesTable, delete, eq, insert_from, ordered_by, sorted_of}
use Rattle.sql_tables.specs.Texts.{update}

-- a table as its text defines it, before it has a tree
abbrev pub treeless : Descriptor → Table
treeless d = table_of (record d { tree = 0 })

-- a schema with these tables more, made one after the other
abbrev pub with_tables : Schema → List Descriptor → Schema
with_tables s [] = s
with_tables s (d ∷ ds) = with_tables (created s (treeless d)) ds

-- The four texts by which a version replaces a table: the newer one is made, filled from the older one, which
-- is emptied, and the version is said.
pub record ReplacesTable (old new : Schema) (older newer : Descriptor) (from at n : ℕ) (project : List Term)
    (create copy empty version : List ℕ) : Type 0 where
  pub makes : MakesTable old create (treeless newer)
  pub made : created old (treeless newer) ≡ new
  pub copies : IsWrite new copy (insert_from at older.tree project)
  pub empties : IsWrite new empty (delete from older.tree [])
  pub sets : IsWrite new version
      (update 0 0 (eq (col 1 0) (lit (Int (pos 1))) ∷ []) (lit Null ∷ lit (Int (pos n)) ∷ []))

-- the whole of a table of so many columns, in the order of its rowids
abbrev pub whole_of : ℕ → ℕ → Query
whole_of tree width = sorted_of tree [] (all_columns width) [] (ordered_by (0 ∷ []))
