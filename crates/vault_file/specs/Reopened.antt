-- What a crash in the midst of a migration leaves of the files, and what the next open finds in them.
use Rattle.sqlite.specs.State.{State}
use Rattle.sqlite.specs.Tree.{Trees}
use Rattle.sqlite_disk.specs.declared.Disk.{Ghosts}
use Rattle.sqlite_store.specs.declared.store.FileStore.{FileStore}
use Rattle.sqlite_wal.specs.Recovery.{Image}
use Rattle.vault_core.specs.Vault.{Vault}
use Rattle.vault_recover.specs.Crashed.{KeepsSuch, MayFind, ReopensSuch}
use Rattle.vault_schema.specs.Holds.{AreIn, HoldsIn}
use Rattle.vault_schema.specs.Stands.{lookups_of}
use Rattle.vault_schema.specs.declared.version.Version.{Version}
use Rattle.vault_steps.specs.Entries.{AreSome}

-- whoever opens files with these bytes, on whatever disk, finds the vault in this version
abbrev pub KeepsIn : Version → Image → Vault → Type 0
KeepsIn v image V = (found : Trees) → MayFind image found → AreIn v V found

-- whoever opens them finds the vault in some version
abbrev pub KeepsSome : Image → Vault → Type 0
KeepsSome image V = KeepsSuch image (AreSome (lookups_of V))

-- the connection holds the vault in some version
abbrev pub HoldsSome : State → Vault → Type 0
HoldsSome s V = ∥ ((v : Version) × HoldsIn v V s) ∥₁

-- whatever bytes a crash may leave of the files now, they keep the vault in some version
abbrev pub ReopensSome : {D : Type 0} {g : Ghosts D} → FileStore D g → Vault → Type 0
ReopensSome it V = ReopensSuch it (AreSome (lookups_of V))

-- whatever bytes a crash may leave of the files now, they keep the vault in this version
abbrev pub ReopensIn : {D : Type 0} {g : Ghosts D} → Version → FileStore D g → Vault → Type 0
ReopensIn v it V = ReopensSuch it (AreIn v V)
