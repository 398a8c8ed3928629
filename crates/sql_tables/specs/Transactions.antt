-- What calls do between the states of a connection, outside a transaction and in one.
use Rattle.std.specs.Prelude.{◌≡◌, ◌≤◌, ℕ, List, Ok, Result, IfOk, OnOk, IsTrue}
use Rattle.sqlite.specs.Effect.{Database}
use Rattle.sqlite.specs.Held.{Held, state}
use Rattle.sqlite.specs.Order.{Row}
use Rattle.sqlite.specs.Schema.{Schema}
use Rattle.sqlite.specs.State.{State, ExecutesInside, HasCleanDisk}
use Rattle.sqlite.specs.View.{doubt}
use Rattle.sqlite.specs.declared.transaction.Transaction.{Transaction}
use Rattle.sqlite_trees.specs.declared.store.Store.{Ghosts}
use Rattle.sql_tables.specs.States.{Claim, Stands, Steps, Within}

-- this is done between the states of a connection before a call and after it
abbrev pub Between : {S : Type 0} → Ghosts S → Held S → Held S → (State → State → Type 0) → Type 0
Between g old new Does = Does (state g old) (state g new)

-- so within a transaction
abbrev pub During : {S : Type 0} → Ghosts S → Transaction S → Transaction S → (State → State → Type 0)
    → Type 0
During g old new Does = Does (state g old.conn.now) (state g new.conn.now)

-- ---- a call that answers Ok on an honest disk, where `claims t` are the rows that make the tables hold t

-- whatever t the tables held, the answer is so of it
abbrev pub TellsStood : {T R E : Type 0} → Schema → (T → List Claim) → Result R E → (T → R → Type 0) → State
    → State → Type 0
TellsStood s claims result Is old new =
    HasCleanDisk new → IfOk result (λ x. (t : _) → Stands s (claims t) old.now → Is t x)

-- within a transaction: whatever t the tables held, the answer is so of it, and they hold it still
abbrev pub TellsWithin : {T R E : Type 0} → Schema → (T → List Claim) → Result R E → (T → R → Type 0)
    → State → State → Type 0
TellsWithin s claims result Is old new =
    HasCleanDisk new
    → IfOk result (λ x. (base : Database) (t : _) → Within s (claims t) base old
    → Is t x × Within s (claims t) base new)

-- within a transaction: whatever t the tables held, they hold `after t` now
abbrev pub Becomes : {T R E : Type 0} → Schema → (T → List Claim) → Result R E → (T → T) → State → State
    → Type 0
Becomes s claims result after old new =
    HasCleanDisk new
    → OnOk result ((base : Database) (t : _) → Within s (claims t) base old
    → Within s (claims (after t)) base new)

-- ---- whatever the call does

-- whether or not the call failed, no doubt of the disk goes away
abbrev pub KeepsDoubts : {S : Type 0} → Ghosts S → Held S → Held S → Type 0
KeepsDoubts g old new = doubt (state g old).is_clean ≤ doubt (state g new).is_clean

module _ {S : Type 0} (g : Ghosts S) (old new : Transaction S) where
  -- this is done over the same connection
  pub record Inside (Does : State → State → Type 0) : Type 0 where
    pub same_reference : new.conn.ghost_name ≡ old.conn.ghost_name
    pub done : Does (state g old.conn.now) (state g new.conn.now)

  -- it is one step of the transaction, over the same connection
  pub record Proceeds : Type 0 where
    pub same_reference : new.conn.ghost_name ≡ old.conn.ghost_name
    pub steps : Steps (state g old.conn.now) (state g new.conn.now)

  -- a text was run with these parameters, over the same connection
  pub record RunsText {R E : Type 0} (result : Result R E) (sql : List ℕ) (params : Row) : Type 0 where
    pub same_reference : new.conn.ghost_name ≡ old.conn.ghost_name
    pub steps : Steps (state g old.conn.now) (state g new.conn.now)
    pub ran : HasCleanDisk (state g new.conn.now)
        → OnOk result (IsTrue (state g old.conn.now).in_transaction
        → (count : ℕ)
        × ExecutesInside 0 sql params (state g old.conn.now) (state g new.conn.now) (Ok count))

  -- from what was so over a last commit it leads to what is so now, over the same connection
  pub record LeadsTo {X R E : Type 0} (result : Result R E) (From To : X → Database → State → Type 0)
      : Type 0 where
    pub same_reference : new.conn.ghost_name ≡ old.conn.ghost_name
    pub steps : Steps (state g old.conn.now) (state g new.conn.now)
    pub done : HasCleanDisk (state g new.conn.now)
        → OnOk result ((base : Database) (x : X) → From x base (state g old.conn.now)
        → To x base (state g new.conn.now))
