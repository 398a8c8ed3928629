-- What a migration does, one step up or all.
use Rattle.std.specs.Prelude.{◌≡◌, ◌≢◌, ℤ, false, Result, IfErr, OnOk}
use Rattle.sqlite.specs.Held.{Held, state}
use Rattle.sqlite.specs.State.{HasCleanDisk}
use Rattle.sqlite_trees.specs.declared.store.Store.{Ghosts}
use Rattle.sql_tables.specs.Schema.{no_schema}
use Rattle.sql_tables.specs.States.{LeavesNoMore}
use Rattle.sql_tables.specs.Transactions.{KeepsDoubts}
use Rattle.vault_core.specs.Vault.{Vault, empty_vault}
use Rattle.vault_migrate.specs.Moved.{FindsBroken, FindsVersion, HoldsSoundIn, IsMovable, IsNoOlder, IsOlder}
use Rattle.vault_migrate.specs.Moved.{LeavesIn}
use Rattle.vault_migrate.specs.Refused.{StaysIn}
use Rattle.vault_schema.specs.Holds.{Holds, HoldsIn}
use Rattle.vault_schema.specs.Making.{IsReady}
use Rattle.vault_schema.specs.Stands.{newest}
use Rattle.vault_schema.specs.Versions.{schema_of}
use Rattle.vault_schema.specs.declared.version.Version.{Version}
use Rattle.vault_verdict.specs.Opened.{IsFit}
use Rattle.vault_verdict.specs.ReadAs.{IsFullIn}
use Rattle.vault_verdict.specs.Reading.{IsFull}
use Rattle.vault_verdict.specs.Refusals.{IsBrokenWhereFull, IsOtherIn, IsUntouched, JudgesRows}
use Rattle.vault_verdict.specs.Refusals.{LeavesAsFound, RowsBreak, SparesFit, TellsOther, WritesNothing}
use Rattle.vault_verdict.specs.declared.fault.OpenFault.{OpenFault}
use Rattle.vault_verdict.specs.declared.fault.OpenFault.TheVariants.{Store}

module _ {S : Type 0} (g : Ghosts S) {R : Type 0} where
  -- with Ok a vault that was held in one version is held in the other
  abbrev pub HoldsMoved : Version → Version → Held S → Held S → Result R OpenFault → Type 0
  HoldsMoved v to old new result = HasCleanDisk (state g new)
      → OnOk result ((V : Vault) → HoldsIn v V (state g old) → HoldsIn to V (state g new))

  -- and a crash leaves it there alone
  abbrev pub LeavesMovedAlone : Version → Version → Held S → Held S → Result R OpenFault → Type 0
  LeavesMovedAlone v to old new result = HasCleanDisk (state g new)
      → OnOk result ((V : Vault) → HoldsIn v V (state g old) → LeavesIn to V (state g new))

  -- with Ok what had full rows in the one version is a sound vault in the other
  abbrev pub HoldsSoundMoved : Version → Version → Held S → Held S → Result R OpenFault → Type 0
  HoldsSoundMoved v to old new result = HasCleanDisk (state g new)
      → OnOk result (IsFullIn v (state g old).now → HoldsSoundIn to (state g new))

  -- a refusal by any number but 33 writes nothing in the schema of the version
  abbrev pub WritesNothingIn : Version → Held S → Held S → Result R OpenFault → Type 0
  WritesNothingIn v old new result = HasCleanDisk (state g new)
      → IfErr result (λ e. e ≢ Store → (state g old).now.schema ≡ schema_of v
      → LeavesNoMore (state g old) (state g new))

  -- with Ok a vault that was held is held still
  abbrev pub KeepsHeld : Held S → Held S → Result R OpenFault → Type 0
  KeepsHeld old new result = HasCleanDisk (state g new)
      → OnOk result ((V : Vault) → Holds (state g old) V → Holds (state g new) V)

  -- with Ok the empty vault is made where there was no table
  abbrev pub MakesBlank : Held S → Held S → Result R OpenFault → Type 0
  MakesBlank old new result = HasCleanDisk (state g new) → OnOk result (IsReady (state g old)
      → (state g old).now.schema ≡ no_schema → Holds (state g new) empty_vault)

  -- with Ok what had full rows was a sound vault, or had no table
  abbrev pub ChecksFit : Held S → Held S → Result R OpenFault → Type 0
  ChecksFit old new result = HasCleanDisk (state g new)
      → OnOk result (IsFull (state g old).now → IsFit (state g old).now)

  -- a refusal writes nothing where there is a table
  abbrev pub WritesNothingWhereSome : Held S → Held S → Result R OpenFault → Type 0
  WritesNothingWhereSome old new result = HasCleanDisk (state g new)
      → IfErr result (λ e. ¬ ((state g old).now.schema ≡ no_schema)
      → LeavesNoMore (state g old) (state g new))

-- What is in an older version is checked there, and moves to another: a vault that was held stands there,
-- whole, and a refusal leaves it as it was.
pub record Moves {S : Type 0} (g : Ghosts S) (v to : Version) (old new : Held S) (result : Result ℤ OpenFault)
    : Type 0 where
  pub idle : new.in_transaction ≡ false
  pub clean : KeepsDoubts g old new
  pub moved : HoldsMoved g v to old new result
  pub whole : LeavesMovedAlone g v to old new result
  pub sound : HoldsSoundMoved g v to old new result
  pub stays : StaysIn g v old new result
  pub unwritten : WritesNothingIn g v old new result
  -- 31 says the least rule that the rows break, where they are full and the version's
  pub damaged : RowsBreak g old new result (IsBrokenWhereFull v)
  -- 30 says the other version that is told, where the schema is this version's
  pub wrong : TellsOther g old new result (IsOtherIn v)

-- What is in no older version is made, where there is no table, or checked; a vault that was held is held
-- still.
pub record MakesOrChecks {S : Type 0} (g : Ghosts S) (old new : Held S) (result : Result ℤ OpenFault)
    : Type 0 where
  pub idle : new.in_transaction ≡ false
  pub clean : KeepsDoubts g old new
  pub kept : KeepsHeld g old new result
  pub same : IsUntouched g newest old new result
  pub blank : MakesBlank g old new result
  pub checked : ChecksFit g old new result
  pub left : LeavesAsFound g old new
  pub unwritten : WritesNothing g old new result
  pub unmade : WritesNothingWhereSome g old new result
  -- 31 says the least rule that the rows break, 30 another version that is told, or 0; neither comes to a
  -- sound vault
  pub rows : JudgesRows g old new result

-- a store is migrated, where `to` is the version that one in a version has then
pub record Migrates {S : Type 0} (g : Ghosts S) (to : Version → Version) (old new : Held S)
    (result : Result ℤ OpenFault) : Type 0 where
  pub idle : new.in_transaction ≡ false
  pub clean : KeepsDoubts g old new
  -- a vault that was held in a version is held in the other
  pub moved : HasCleanDisk (state g new) → OnOk result ((v : Version) (V : Vault)
      → HoldsIn v V (state g old) → HoldsIn (to v) V (state g new))
  -- and a crash leaves it there
  pub whole : HasCleanDisk (state g new) → OnOk result ((v : Version) (V : Vault)
      → HoldsIn v V (state g old) → LeavesIn (to v) V (state g new))
  -- what was in an older version is a sound vault now
  pub sound : HasCleanDisk (state g new)
      → OnOk result ((v : Version) → IsOlder v → IsFullIn v (state g old).now
      → HoldsSoundIn (to v) (state g new))
  -- in the newest version nothing changes
  pub same : IsUntouched g newest old new result
  -- without a table the empty vault is made
  pub blank : MakesBlank g old new result
  -- what is in no older version was checked
  pub checked : HasCleanDisk (state g new)
      → OnOk result (IsNoOlder (state g old).now → IsFull (state g old).now → IsFit (state g old).now)
  -- a refusal by any number but 33 leaves a vault as it was, in whatever version
  pub stays : HasCleanDisk (state g new) → IfErr result (λ e. e ≢ Store
      → (v : Version) (V : Vault) → HoldsIn v V (state g old) → LeavesIn v V (state g new))
  -- and writes nothing
  pub unwritten : WritesNothing g old new result
  -- where there is a table, and no older schema, nor does 33
  pub unmoved : HasCleanDisk (state g new)
      → IfErr result (λ e. IsNoOlder (state g old).now → ¬ ((state g old).now.schema ≡ no_schema)
      → LeavesNoMore (state g old) (state g new))
  -- 31 says the least rule that the rows break
  pub damaged : RowsBreak g old new result FindsBroken
  -- 30 says the version that is told
  pub wrong : TellsOther g old new result FindsVersion
  -- neither comes to a sound vault in any version, or to a store without a table
  pub spared : SparesFit g old new result IsMovable
