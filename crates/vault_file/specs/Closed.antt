-- What whoever opens a vault's files after a stop finds in them.
use Rattle.std.specs.Prelude.{◌≡◌}
use Rattle.sqlite.specs.Schema.{Schema}
use Rattle.sqlite.specs.State.{State}
use Rattle.sqlite.specs.Tree.{Trees}
use Rattle.sqlite_catalog.specs.Listing.{IsSound}
use Rattle.sqlite_disk.specs.declared.Disk.{Ghosts}
use Rattle.sqlite_store.specs.FileStore as files
use Rattle.sqlite_store.specs.declared.store.FileStore.{FileStore}
use Rattle.sqlite_wal.specs.Recovery.{Image}
use Rattle.vault_core.specs.Vault.{Vault}
use Rattle.vault_file.specs.Reopened.{ReopensIn, ReopensSome}
use Rattle.vault_migrate.specs.Moved.{LeavesIn, LeavesSome}
use Rattle.vault_recover.specs.Crashed.{AreBlank, MayFind, Reopens, ReopensEither, ReopensFirst}
use Rattle.vault_schema.specs.Holds.{Holds, LeavesEither, LeavesFirst}
use Rattle.vault_schema.specs.declared.version.Version.{Version}

-- whatever a crash may leave of a connection in this state, whoever opens these files finds
pub record ReopensAs {D : Type 0} {g : Ghosts D} (s : State) (it : FileStore D g) : Type 0 where
  -- the vault that was held
  pub kept : (V : Vault) → Holds s V → Reopens it V
  -- one of two vaults
  pub either : (V W : Vault) → LeavesEither s V W → ReopensEither it V W
  -- what was there without a table, or the empty vault
  pub first : (before : Trees) → AreBlank before → LeavesFirst s before → ReopensFirst it before
  -- a vault in some version
  pub some : (V : Vault) → LeavesSome V s → ReopensSome it V
  -- a vault in one version
  pub same : (v : Version) (V : Vault) → LeavesIn v V s → ReopensIn v it V
  -- the one sound database that may be left
  pub only : (schema : Schema) (one : Trees) → IsSound schema one
      → ((db : Trees) → s.may_leave db → db ≡ one)
      → (left : Image) → (files.state it).may_leave left → (found : Trees) → MayFind left found → found ≡ one
