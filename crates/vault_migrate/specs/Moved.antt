-- What a migration finds, and what it leaves.
use Rattle.std.specs.Prelude.{◌≡◌, ◌⊎◌, ℕ, ℤ}
use Rattle.sqlite.specs.Effect.{Database}
use Rattle.sqlite.specs.State.{State}
use Rattle.sqlite.specs.Tree.{Trees}
use Rattle.sql_tables.specs.Schema.{no_schema}
use Rattle.vault_core.specs.Sound.{Sound}
use Rattle.vault_core.specs.Vault.{Vault}
use Rattle.vault_schema.specs.Holds.{AreIn, HoldsIn}
use Rattle.vault_schema.specs.Layers.{Either, is_from}
use Rattle.vault_schema.specs.Stands.{lookups_of, newest}
use Rattle.vault_schema.specs.Versions.{next_of, schema_of}
use Rattle.vault_schema.specs.declared.version.Version.{Version}
use Rattle.vault_steps.specs.Entries.{AreSome}
use Rattle.vault_verdict.specs.Opened.{IsBrokenIn, IsLeastBroken, IsVersionIn, IsWrong, LeavesFound}
use Rattle.vault_verdict.specs.Opened.{StandsSoundIn}
use Rattle.vault_verdict.specs.ReadAs.{IsFullIn}
use Rattle.vault_verdict.specs.Reading.{IsFull}

-- a version that a step leads on from
abbrev pub IsOlder : Version → Type 0
IsOlder v = Either (is_from newest v) ⊥ (Unit {0})

-- the schema is that of no older version
abbrev pub IsNoOlder : Database → Type 0
IsNoOlder db = (v : Version) → IsOlder v → ¬ (db.schema ≡ schema_of v)

-- the schema is a version's, or there is no table
abbrev pub IsKnown : Database → Type 0
IsKnown db = ((v : Version) → ¬ (db.schema ≡ schema_of v)) → db.schema ≡ no_schema

-- where no row lacks its last column, the database stands for a sound vault in the version of its schema
abbrev pub IsSoundWhereFull : Database → Type 0
IsSoundWhereFull db = (v : Version) → IsFullIn v db → StandsSoundIn v db

-- the connection holds a sound vault in this version
pub record HoldsSoundIn (v : Version) (s : State) : Type 0 where
  pub vault : Vault
  pub sound : Sound vault
  pub holds : HoldsIn v vault s

-- each state that a crash may leave now stands for the vault, in this version
abbrev pub LeavesIn : Version → Vault → State → Type 0
LeavesIn v V s = (db : Trees) → s.may_leave db → AreIn v V db

-- in this version or in the next
abbrev pub LeavesStep : Version → Vault → State → Type 0
LeavesStep v V s = (db : Trees) → s.may_leave db → AreIn v V db ⊎ AreIn (next_of v) V db

-- in some version
abbrev pub LeavesSome : Vault → State → Type 0
LeavesSome V s = (db : Trees) → s.may_leave db → AreSome (lookups_of V) db

-- What a crash may leave now: where a vault was held in an older version, that vault in it or in the next;
-- where one was held in the newest, that vault; without a table, what was committed or the empty vault.
pub record LeavesMoved (old new : State) : Type 0 where
  pub older : (v : Version) (V : Vault) → HoldsIn v V old → LeavesStep v V new
  pub found : LeavesFound old new

-- the same of all steps: where a vault was held, that vault in some version
pub record LeavesClimbed (old new : State) : Type 0 where
  pub older : (v : Version) (V : Vault) → HoldsIn v V old → LeavesSome V new
  pub found : LeavesFound old new

-- the rows break this rule and none below it, read as those of the newest version
pub record FindsBroken (db : Database) (rule : ℕ) : Type 0 where
  pub older : (v : Version) → IsOlder v → IsFullIn v db → IsBrokenIn v db rule
  pub newest : IsNoOlder db → IsFull db → IsLeastBroken db rule

-- in an older version another one is told, or else what a check refuses by this number
pub record FindsVersion (db : Database) (n : ℤ) : Type 0 where
  pub older : (v : Version) → IsOlder v → db.schema ≡ schema_of v → IsVersionIn v db n
  pub newest : IsNoOlder db → IsWrong db n

-- the database stands for a sound vault in some version, or has no table
abbrev pub IsMovable : Database → Type 0
IsMovable db = ((v : Version) × StandsSoundIn v db) ⊎ (db.schema ≡ no_schema)
