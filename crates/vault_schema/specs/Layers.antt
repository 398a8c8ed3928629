-- A version as layers: each table stands from the version that brings it, and is in use up to the one that
-- replaces it. What a version's schema is, and what is said of its rows, is computed from one list.
use Rattle.std.specs.Prelude.{◌++◌, ℕ, zero, suc, Bool, true, false, List, [], ◌∷◌, Option, Some, None, cond}
use Rattle.sqlite.specs.Schema.{Schema}
use Rattle.sqlite.specs.Table.{Table}
use Rattle.sqlite_schema.specs.declared.schema.Index.{Index}
use Rattle.sql_tables.specs.States.{Claim, IsEmpty}
use Rattle.vault_schema.specs.declared.version.Version.{Version}
use Rattle.vault_schema.specs.declared.version.Version.TheVariants.{One, Two, Three, Four}

-- how many versions came before
abbrev pub rank : Version → ℕ
rank One = 0
rank Two = 1
rank Three = 2
rank Four = 3

-- so many or more
abbrev pub is_many : ℕ → ℕ → Bool
is_many zero n = true
is_many (suc m) zero = false
is_many (suc m) (suc n) = is_many m n

-- it is this version or a later one
abbrev pub is_from : Version → Version → Bool
is_from w v = is_many (rank w) (rank v)

-- it is one that replaced a table, or a later one
abbrev pub is_past : Version → Option Version → Bool
is_past v None = false
is_past v (Some w) = is_from w v

-- the one where it is so, and the other where it isn't
abbrev pub Either : Bool → Type 0 → Type 0 → Type 0
Either true P Q = P
Either false P Q = Q

-- a table with its indexes, and what is said of its rows while it is in use
pub record Layer (T : Type 0) : Type 1 where
  pub since : Version
  pub till : Option Version
  pub table : Table
  pub indexes : List Index
  pub claim : Version → T → Claim

-- a table that was replaced is empty
abbrev pub claim_or_empty : Bool → Claim → Claim
claim_or_empty true P = IsEmpty
claim_or_empty false P = P

-- with a claim more where it is so
abbrev pub said_if : Bool → Claim → List Claim → List Claim
said_if true P Ps = P ∷ Ps
said_if false P Ps = Ps

-- the claims where it is so, and none where it isn't
abbrev pub claims_if : Bool → List Claim → List Claim
claims_if true Ps = Ps
claims_if false Ps = []

module _ {T : Type 0} (v : Version) where
  -- what a version says of a table that is there
  abbrev pub claim_in : Layer T → T → Claim
  claim_in l t = claim_or_empty (is_past v l.till) (l.claim v t)

  -- what it says of the rows of its tables, in its order
  abbrev pub claims_at : List (Layer T) → T → List Claim
  claims_at [] t = []
  claims_at (l ∷ ls) t = said_if (is_from l.since v) (claim_in l t) (claims_at ls t)

  abbrev pub tables_at : List (Layer T) → List Table
  tables_at [] = []
  tables_at (l ∷ ls) = cond (is_from l.since v) (l.table ∷ tables_at ls) (tables_at ls)

  abbrev pub indexes_at : List (Layer T) → List Index
  indexes_at [] = []
  indexes_at (l ∷ ls) = cond (is_from l.since v) (l.indexes ++ indexes_at ls) (indexes_at ls)

  abbrev pub schema_at : List (Layer T) → Schema
  schema_at ls = record { tables = tables_at ls; indexes = indexes_at ls; views = [] }
