-- Reading the whole of a table.
use Rattle.std.specs.Global.{Vec}
use Rattle.std.specs.List.Sorted.{IsPermutation, IsSortedByKey}
use Rattle.std.specs.Ordering.{int_cmp}
use Rattle.std.specs.Prelude.{◌≡◌, ◌≢◌, ◌⊎◌, ◌<◌, ℕ, ℤ, List, [], ◌∷◌, length, map}
use Rattle.std.specs.Prelude.{Result, IfErr, IfOk, OnOk}
use Rattle.sqlite.specs.Effect.{Database, IsDatabase}
use Rattle.sqlite.specs.Held.{Held, state}
use Rattle.sqlite.specs.Order.{Row}
use Rattle.sqlite.specs.Schema.{Schema}
use Rattle.sqlite.specs.State.{State, HasCleanDisk, Begins, FailsToQuery, Shown}
use Rattle.sqlite.specs.Tree.{Trees}
use Rattle.sqlite.specs.declared.error.Error.{Error}
use Rattle.sqlite.specs.declared.error.Error.TheVariants.{SqliteFailure}
use Rattle.sqlite.specs.declared.error.ErrorCode.TheVariants.{OutOfMemory}
use Rattle.sqlite_rules.specs.Lists.{Has}
use Rattle.sqlite_trees.specs.declared.store.Store.{Ghosts}
use Rattle.sql_tables.specs.States.{Reads}
use Rattle.sql_tables.specs.Values.{IsStrange}
use Rattle.sql_tables.specs.declared.fault.StoreFault.{StoreFault}
use Rattle.sql_tables.specs.declared.fault.StoreFault.TheVariants.{Store}

-- 1 where there are any
abbrev pub any_left : {X : Type 0} → List X → ℕ
any_left [] = 0
any_left (x ∷ xs) = 1

-- each row of a table has more columns than this
abbrev pub AreLonger : ℕ → List Row → Type 0
AreLonger n rows = (row : Row) → Has rows row → n < length row

-- no premise
abbrev pub IsAny : Database → Type 0
IsAny db = Unit {0}

-- a query as it is asked and read: of a database in this schema, by this text, each row as these values
pub record Look (R : Type 0) : Type 0 where
  pub schema : Schema
  pub text : List ℕ
  pub values : R → Row

-- How a table is read: by a query; its rows as they are read, and the premise under which they are all its
-- rows; how one that was read stands there, and its rowid.
pub record TableLook (R : Type 0) : Type 1 where
  pub look : Look R
  pub full : Database → Type 0
  pub rows : Trees → List Row
  pub stands : R → Row
  pub id : R → ℤ

-- Rows that were read of a table, in the order of their rowids: as many as it has, and under the premise they
-- are all its rows, as they are read.
pub record AreTable {R : Type 0} (Full : Database → Type 0) (rows : Trees → List Row) (stands : R → Row)
    (id : R → ℤ) (db : Database) (raws : List R) : Type 0 where
  pub sound : IsDatabase db
  pub many : length raws ≡ length (rows db.trees)
  pub all : Full db → IsPermutation (rows db.trees) (map stands raws)
  pub ordered : IsSortedByKey id int_cmp raws

-- a query that failed, but not for want of memory
abbrev pub Failed : List ℕ → State → State → Type 0
Failed text old new =
    (error : Error) × (error ≢ SqliteFailure OutOfMemory) × FailsToQuery text [] old new error

-- an answer that begins with a list of rows which no raw ones show
abbrev pub ShowsStrange : {R : Type 0} → List ℕ → (R → Row) → State → Type 0
ShowsStrange text values st = (rows : List Row) × Begins text [] st rows × IsStrange (map values) rows

module _ {S : Type 0} (g : Ghosts S) where
  -- of a database in this schema, on an honest disk, this is so
  abbrev pub InSchema : Schema → Held S → Held S → (Database → Type 0) → Type 0
  InSchema s old new Says =
      HasCleanDisk (state g new) → (state g old).now.schema ≡ s → Says (state g old).now

  -- Why the rows of a query of this database aren't read, though memory is there: at some row the query
  -- failed, or what it shows is strange.
  pub record IsUnread {R : Type 0} (text : List ℕ) (values : R → Row) (db : Database) (new : Held S)
      : Type 0 where
    pub at : Held S
    pub same : (state g at).now ≡ db
    pub why : Failed text (state g at) (state g new) ⊎ ShowsStrange text values (state g at)

  -- the rows that a query shows are taken, each as it comes, and nothing else is done
  pub record TakesRows {R K : Type 0} (look : Look R) (Has : K → List R → Type 0)
      (result : Result K StoreFault) (old new : Held S) : Type 0 where
    pub reads : Reads look.schema result (state g old) (state g new)
    pub told : InSchema look.schema old new (λ db. IfOk result (λ k. (raws : List R) × Has k raws
        × Shown look.text [] (state g old) (state g new) (map look.values raws)))
    pub sound : InSchema look.schema old new (λ db. OnOk result (IsDatabase db))
    pub refused : InSchema look.schema old new (λ db.
        IfErr result (λ e. e ≡ Store → IsUnread look.text look.values db new))

  -- the rows that a query shows are read, each as it comes, and nothing else is done
  pub record ReadsRows {R : Type 0} (look : Look R) (result : Result (Vec R) StoreFault) (old new : Held S)
      : Type 0 where
    pub reads : Reads look.schema result (state g old) (state g new)
    pub told : InSchema look.schema old new (λ db. IfOk result (λ raws.
        Shown look.text [] (state g old) (state g new) (map look.values raws.items)))
    pub sound : InSchema look.schema old new (λ db. OnOk result (IsDatabase db))
    pub refused : InSchema look.schema old new (λ db.
        IfErr result (λ e. e ≡ Store → IsUnread look.text look.values db new))

  -- a table is read, and nothing else is done
  pub record ReadsTable {R : Type 0} (table : TableLook R) (result : Result (Vec R) StoreFault)
      (old new : Held S) : Type 0 where
    pub reads : Reads table.look.schema result (state g old) (state g new)
    pub told : InSchema table.look.schema old new (λ db. IfOk result (λ raws.
        AreTable table.full table.rows table.stands table.id db raws.items))
    pub refused : InSchema table.look.schema old new (λ db.
        IfErr result (λ e. e ≡ Store → IsUnread table.look.text table.look.values db new))

  -- a table is taken, row by row, and nothing else is done
  pub record TakesTable {R K : Type 0} (table : TableLook R) (Has : K → List R → Type 0)
      (result : Result K StoreFault) (old new : Held S) : Type 0 where
    pub reads : Reads table.look.schema result (state g old) (state g new)
    pub told : InSchema table.look.schema old new (λ db. IfOk result (λ k. (raws : List R) × Has k raws
        × AreTable table.full table.rows table.stands table.id db raws))
    pub refused : InSchema table.look.schema old new (λ db.
        IfErr result (λ e. e ≡ Store → IsUnread table.look.text table.look.values db new))

  -- the rows of a table are read, and it is told whether there are any; nothing else is done
  pub record TellsAny {R : Type 0} (look : Look R) (rows : Trees → List Row) (result : Result ℕ StoreFault)
      (old new : Held S) : Type 0 where
    pub reads : Reads look.schema result (state g old) (state g new)
    pub told : InSchema look.schema old new (λ db. IfOk result (λ n. n ≡ any_left (rows db.trees)))
    pub refused : InSchema look.schema old new (λ db.
        IfErr result (λ e. e ≡ Store → IsUnread look.text look.values db new))
