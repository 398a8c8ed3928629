-- What a refusal leaves of a vault that was to move.
use Rattle.std.specs.Prelude.{◌≢◌, Result, IfErr}
use Rattle.sqlite.specs.Held.{Held, state}
use Rattle.sqlite.specs.State.{HasCleanDisk}
use Rattle.sqlite_trees.specs.declared.store.Store.{Ghosts}
use Rattle.vault_core.specs.Vault.{Vault}
use Rattle.vault_migrate.specs.Moved.{LeavesIn}
use Rattle.vault_schema.specs.Holds.{HoldsIn}
use Rattle.vault_schema.specs.declared.version.Version.{Version}
use Rattle.vault_verdict.specs.declared.fault.OpenFault.{OpenFault}
use Rattle.vault_verdict.specs.declared.fault.OpenFault.TheVariants.{Store}

-- a refusal by any number but 33 leaves a vault as it was in this version
abbrev pub StaysIn : {S R : Type 0} → Ghosts S → Version → Held S → Held S → Result R OpenFault → Type 0
StaysIn g v old new result =
    HasCleanDisk (state g new)
    → IfErr result (λ e. e ≢ Store → (V : Vault) → HoldsIn v V (state g old) → LeavesIn v V (state g new))
