-- Databases in which a schema can be made.
use Rattle.std.specs.Prelude.{◌≡◌, ◌++◌, ℕ, zero, suc, List, [], ◌∷◌, false, None, IsTrue}
use Rattle.sqlite.specs.Effect.{Database}
use Rattle.sqlite.specs.Schema.{Schema}
use Rattle.sqlite.specs.State.{State}
use Rattle.sql_tables.specs.Schema.{no_schema}
use Rattle.sql_tables.specs.States.{Claim, IsEmpty, Within}

-- an open database outside a transaction, all of which is committed
pub record IsReady (s : State) : Type 0 where
  pub is_open : IsTrue s.is_open
  pub autocommit : s.in_transaction ≡ false
  pub unlimited : s.step_limit ≡ None
  pub settled : s.now ≡ s.committed

-- inside a transaction over this last commit, in a database without a table, an index or a view
pub record IsBegun (s : State) (base : Database) : Type 0 where
  pub is_open : IsTrue s.is_open
  pub inside : IsTrue s.in_transaction
  pub unlimited : s.step_limit ≡ None
  pub schema : s.now.schema ≡ no_schema
  pub committed : s.committed ≡ base

-- of so many tables, none has a row
abbrev pub empties : ℕ → List Claim
empties zero = []
empties (suc n) = empties n ++ IsEmpty ∷ []

-- inside a transaction over this last commit, in a schema of so many tables, of which none has a row
abbrev pub IsRowless : Schema → ℕ → State → Database → Type 0
IsRowless s n st base = Within s (empties n) base st
