-- How a table is read whole: in one of its versions, and as its newest one.
use Rattle.std.specs.Global.{Vec}
use Rattle.std.specs.List.Sorted.{IsPermutation}
use Rattle.std.specs.Prelude.{◌≡◌, ℕ, ℤ, List, [], ◌∷◌, Result, length, map}
use Rattle.sqlite.specs.Effect.{Database, IsDatabase}
use Rattle.sqlite.specs.Held.{Held}
use Rattle.sqlite.specs.Order.{Row}
use Rattle.sqlite.specs.Schema.{Schema}
use Rattle.sqlite.specs.State.{State, Shown}
use Rattle.sqlite.specs.Table.{Table}
use Rattle.sqlite.specs.Term.{Term, col}
use Rattle.sqlite.specs.Tree.{Trees, rowid}
use Rattle.sqlite.specs.declared.types.Value.TheVariants.{Int}
use Rattle.sqlite_schema.specs.declared.schema.Index.{Index}
use Rattle.sqlite_trees.specs.declared.store.Store.{Ghosts}
use Rattle.sql_tables.specs.Schema.{grown}
use Rattle.sql_tables.specs.Texts.{IsQuery, ordered_by, sorted_of}
use Rattle.sql_tables.specs.Reading.{Look, ReadsTable, TableLook, TakesTable, TellsAny}
use Rattle.sql_tables.specs.declared.fault.StoreFault.{StoreFault}
use Rattle.sql_tables.specs.declared.left.RowId.{RowId}

-- a text that shows these terms of each row of a tree, behind its rowid, in each schema that begins with this
abbrev pub ScansTree : Schema → List ℕ → ℕ → List Term → Type 0
ScansTree base text tree more =
    (ts : List Table) (is : List Index) → IsQuery (grown base ts is) text
    (sorted_of tree [] (col 1 0 ∷ more) [] (ordered_by (0 ∷ [])))

-- How a version of a table is read: as what, by which text in each schema that begins with its first one,
-- and what that shows of a row; its rows as they are read, and how one that was read stands there.
pub record Scan (R : Type 0) : Type 1 where
  pub values : R → Row
  pub base : Schema
  pub tree : ℕ
  pub text : List ℕ
  pub more : List Term
  pub rows : Trees → List Row
  pub full : Database → Type 0  -- what is to be known of a file
  pub stands : R → Row
  pub id : R → ℤ
  pub means : ScansTree base text tree more
  pub id_is : (raw : R) → rowid (values raw) ≡ Int (id raw)
  pub many : (db : Trees) → length (rows db) ≡ length (db tree)
  pub all : (ts : List Table) (is : List Index) (old new : State) → old.now.schema ≡ grown base ts is
      → IsDatabase old.now → full old.now → (raws : List R) → Shown text [] old new (map values raws)
      → IsPermutation (rows old.now.trees) (map stands raws)

-- how it is read whether a table has rows: by its rowids
pub record IdScan : Type 0 where
  pub base : Schema
  pub tree : ℕ
  pub text : List ℕ
  pub means : ScansTree base text tree []

-- a row of which the rowid alone is read
abbrev pub id_values : RowId → Row
id_values r = Int r.rowid ∷ []

-- a query as a scan asks it in this schema, and the table as it reads it there
abbrev pub look_of : {R : Type 0} → Scan R → Schema → Look R
look_of scan s = record { schema = s; text = scan.text; values = scan.values }

abbrev pub table_look : {R : Type 0} → Scan R → Schema → TableLook R
table_look scan s =
    record { look = look_of scan s; full = scan.full; rows = scan.rows; stands = scan.stands; id = scan.id }

-- the rowids alone, as a scan asks for them in this schema
abbrev pub id_look : IdScan → Schema → Look RowId
id_look scan s = record { schema = s; text = scan.text; values = id_values }

module _ {S : Type 0} (g : Ghosts S) where
  -- the table is read so, in each schema that begins with its first one
  abbrev pub ReadsScan : {R : Type 0} → Scan R → Result (Vec R) StoreFault → Held S → Held S → Type 0
  ReadsScan scan result old new =
      (ts : List Table) (is : List Index) → ReadsTable g (table_look scan (grown scan.base ts is)) result old
      new

  -- and it is taken so, row by row
  abbrev pub TakesScan : {R K : Type 0} → Scan R → (K → List R → Type 0) → Result K StoreFault → Held S
      → Held S → Type 0
  TakesScan scan Has result old new =
      (ts : List Table) (is : List Index) → TakesTable g (table_look scan (grown scan.base ts is)) Has result
      old new

  -- it is told so whether the table has rows
  abbrev pub TellsScan : IdScan → Result ℕ StoreFault → Held S → Held S → Type 0
  TellsScan scan result old new =
      (ts : List Table) (is : List Index) → TellsAny g (id_look scan (grown scan.base ts is))
      (λ db. db scan.tree) result old new
