-- What a call does inside a transaction to tables of a version that has cards.
use Rattle.std.specs.Prelude.{ℤ, Option, Result, IfOk, OnOk}
use Rattle.sqlite.specs.Effect.{Database}
use Rattle.sqlite.specs.State.{State, HasCleanDisk}
use Rattle.sql_tables.specs.States.{Steps, Within, Reads}
use Rattle.sql_tables.specs.States as maps
use Rattle.vault_core.specs.Keys.{Bytes}
use Rattle.vault_schema.specs.Joined.{AreJoined, nothing_owed}
use Rattle.vault_schema.specs.Schema.{newest_schema}
use Rattle.vault_schema.specs.Stands.{newest_claims}
use Rattle.vault_schema.specs.Versions.{Lookups, Tables, claims_of, schema_of, tables_of}
use Rattle.vault_schema.specs.declared.rows.Card.{Card}
use Rattle.vault_schema.specs.declared.rows.Pointing.{Pointing}
use Rattle.vault_schema.specs.declared.version.Version.{Version}

-- inside a transaction over this last commit, where the tables of a version have this; those of schema 1 have
-- no cards, so nothing is held there
abbrev pub HasTables : Version → State → Database → Tables → Type 0
HasTables v st base t = Within (schema_of v) (claims_of v t) base st

-- inside a transaction over this last commit, where what is seen stands for these lookups
pub record IsWithin (v : Version) (st : State) (base : Database) (h : Lookups) : Type 0 where
  pub cards : ℤ → Option Card
  pub pointing : Bytes × Bytes → Option Pointing
  pub has : HasTables v st base (tables_of h cards pointing)
  pub joined : AreJoined nothing_owed cards pointing h.entries

-- ---- in one version

-- it is one step of a transaction, and this is what it makes of lookups for which it can be done
pub record Makes {R E : Type 0} (v : Version) (result : Result R E) (Can : Lookups → Type 0)
    (after : Lookups → Lookups) (old new : State) : Type 0 where
  pub steps : Steps old new
  pub done : HasCleanDisk new
      → OnOk result ((base : Database) (h : Lookups) → IsWithin v old base h → Can h
      → IsWithin v new base (after h))

-- it is one step of a transaction, and this is what it makes of tables for which it can be done
pub record Turns {R E : Type 0} (v : Version) (result : Result R E) (Can : Tables → Type 0)
    (After : R → Tables → Tables → Type 0) (old new : State) : Type 0 where
  pub steps : Steps old new
  pub done : HasCleanDisk new
      → IfOk result (λ x. (base : Database) (t : Tables) → HasTables v old base t → Can t
      → (after : Tables) × After x t after × HasTables v new base after)

-- inside a transaction it only reads, and what it answers is so of what the tables have
pub record TellsInside {R E : Type 0} (v : Version) (result : Result R E) (Is : Tables → R → Type 0)
    (old new : State) : Type 0 where
  pub steps : Steps old new
  pub told : HasCleanDisk new
      → IfOk result (λ x. (base : Database) (t : Tables) → HasTables v old base t
      → Is t x × HasTables v new base t)

-- ---- in each version

-- it is one step of a transaction, and does this in each version
pub record InEach (Does : Version → State → State → Type 0) (old new : State) : Type 0 where
  pub steps : Steps old new
  pub each : (v : Version) → Does v old new

abbrev pub MakesInEach : {R E : Type 0} → Result R E → (Lookups → Type 0) → (Lookups → Lookups) → State
    → State → Type 0
MakesInEach result Can after old new = InEach (λ v. Makes v result Can after) old new

abbrev pub TurnsInEach : {R E : Type 0} → Result R E → (Tables → Type 0) → (R → Tables → Tables → Type 0)
    → State → State → Type 0
TurnsInEach result Can After old new = InEach (λ v. Turns v result Can After) old new

abbrev pub TellsInEach : {R E : Type 0} → Result R E → (Tables → R → Type 0) → State → State → Type 0
TellsInEach result Is old new = InEach (λ v. TellsInside v result Is) old new

-- it only reads, and what it answers is so of what the tables have
pub record TellsTables {R E : Type 0} (result : Result R E) (Is : Tables → R → Type 0) (old new : State)
    : Type 0 where
  pub reads : Reads newest_schema result old new
  pub told : HasCleanDisk new
      → IfOk result (λ x. (t : Tables) → maps.Stands newest_schema (newest_claims t) old.now → Is t x)
