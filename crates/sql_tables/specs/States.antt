-- Connections that hold tables in a schema, and what calls make of them.
use Rattle.std.specs.Prelude.{◌≡◌, ◌≤◌, ℕ, zero, suc, false, List, [], ◌∷◌, None, IsTrue, Result, OnOk}
use Rattle.sqlite.specs.Effect.{Database, IsDatabase}
use Rattle.sqlite.specs.Order.{Row}
use Rattle.sqlite.specs.Schema.{Schema}
use Rattle.sqlite.specs.State.{State, HasCleanDisk, IsUnchanged}
use Rattle.sqlite.specs.Table.{Table}
use Rattle.sqlite.specs.Tree.{Trees}
use Rattle.sqlite.specs.View.{doubt}

-- what is said of the rows of one table
abbrev pub Claim : Type 1
Claim = List Row → Type 0

-- the rows of each table are as is said of it
abbrev pub StandsIn : List Table → List Claim → Trees → Type 0
StandsIn [] [] db = Unit {0}
StandsIn (t ∷ ts) (P ∷ Ps) db = P (db t.tree) × StandsIn ts Ps db
StandsIn [] (P ∷ Ps) db = ⊥
StandsIn (t ∷ ts) [] db = ⊥

-- something else is said of the table at this place
abbrev pub at_place : List Claim → ℕ → Claim → List Claim
at_place [] place Q = []
at_place (P ∷ Ps) zero Q = Q ∷ Ps
at_place (P ∷ Ps) (suc place) Q = P ∷ at_place Ps place Q

-- no rows
abbrev pub IsEmpty : Claim
IsEmpty rows = rows ≡ []

-- the database has this schema, and its rows are as is said
pub record Stands (s : Schema) (claims : List Claim) (db : Database) : Type 0 where
  pub schema : db.schema ≡ s
  pub sound : IsDatabase db
  pub rows : StandsIn s.tables claims db.trees

-- the connection is open, and its statements may take any number of steps
pub record IsFree (st : State) : Type 0 where
  pub is_open : IsTrue st.is_open
  pub unlimited : st.step_limit ≡ None

-- outside a transaction, with all that it sees committed
pub record Holds (s : Schema) (claims : List Claim) (st : State) : Type 0 where
  pub free : IsFree st
  pub autocommit : st.in_transaction ≡ false
  pub settled : st.now ≡ st.committed
  pub stands : Stands s claims st.now

-- inside a transaction over this last commit
pub record Within (s : Schema) (claims : List Claim) (base : Database) (st : State) : Type 0 where
  pub free : IsFree st
  pub inside : IsTrue st.in_transaction
  pub committed : st.committed ≡ base
  pub stands : Stands s claims st.now

-- a crash has no new outcome
abbrev pub LeavesNoMore : State → State → Type 0
LeavesNoMore old new = (db : Trees) → new.may_leave db → old.may_leave db

-- A call that only reads a database of this schema: whether or not it failed, the disk's doubts stay, no
-- transaction begins and a crash leaves nothing new. Where it did not fail, nothing changed.
pub record Reads {R E : Type 0} (s : Schema) (result : Result R E) (old new : State) : Type 0 where
  pub clean : doubt old.is_clean ≤ doubt new.is_clean
  pub mode : old.in_transaction ≡ false → new.in_transaction ≡ false
  pub limit : new.step_limit ≡ old.step_limit
  pub left : HasCleanDisk new → old.now.schema ≡ s → LeavesNoMore old new
  pub kept : HasCleanDisk new → old.now.schema ≡ s → OnOk result (IsUnchanged old new)

-- A call inside a transaction: whether or not it failed, the disk's doubts stay, and a crash leaves nothing
-- new.
pub record Steps (old new : State) : Type 0 where
  pub clean : doubt old.is_clean ≤ doubt new.is_clean
  pub limit : new.step_limit ≡ old.step_limit
  pub left : HasCleanDisk new → LeavesNoMore old new
