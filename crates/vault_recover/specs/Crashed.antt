-- What a crash leaves of the files, and what the next open finds in them.
use Rattle.std.specs.Prelude.{◌≡◌, ◌⊎◌}
use Rattle.sqlite.specs.Files.{HoldsDatabase, IsOpened, file_state}
use Rattle.sqlite.specs.Held.{Held}
use Rattle.sqlite.specs.Start.{FindsIn}
use Rattle.sqlite.specs.State.{State}
use Rattle.sqlite_catalog.specs.Listing.{IsSound}
use Rattle.sqlite_disk.specs.declared.Disk.{Ghosts}
use Rattle.sqlite_store.specs.FileStore as files
use Rattle.sqlite_store.specs.declared.store.FileStore.{FileStore}
use Rattle.sqlite_trees.specs.Tree.{Trees}
use Rattle.sqlite_wal.specs.Recovery.{Image}
use Rattle.sql_tables.specs.Schema.{no_schema}
use Rattle.vault_core.specs.Vault.{Vault, empty_vault}
use Rattle.vault_schema.specs.Holds.{AreEither, AreFirst, AreOurs, Holds}
use Rattle.vault_schema.specs.Making.{IsReady}

-- an open of files with these bytes may find these trees: they are those of each database that the bytes hold
abbrev pub MayFind : Image → Trees → Type 0
MayFind image found = (db : Trees) → HoldsDatabase image db → found ≡ db

-- whoever opens files with these bytes, on whatever disk, finds the vault
abbrev pub Keeps : Image → Vault → Type 0
Keeps image V = (found : Trees) → MayFind image found → AreOurs found V

-- whoever opens them finds trees of which this is true
abbrev pub KeepsSuch : Image → (Trees → Type 0) → Type 0
KeepsSuch image Are = (found : Trees) → MayFind image found → ∥ Are found ∥₁

-- whoever opens them finds the one vault or the other
abbrev pub KeepsEither : Image → Vault → Vault → Type 0
KeepsEither image V W = KeepsSuch image (AreEither V W)

-- whoever opens them finds these trees or the empty vault
abbrev pub KeepsFirst : Image → Trees → Type 0
KeepsFirst image before = KeepsSuch image (AreFirst before)

-- the trees of a database without a table, an index or a view
abbrev pub AreBlank : Trees → Type 0
AreBlank = IsSound no_schema

-- the connection holds the one vault or the other
abbrev pub HoldsEither : State → Vault → Vault → Type 0
HoldsEither s V W = ∥ (Holds s V ⊎ Holds s W) ∥₁

-- the connection is outside a transaction, and sees these trees, without a table, an index or a view
pub record IsBlank (s : State) (trees : Trees) : Type 0 where
  pub ready : IsReady s
  pub schema : s.now.schema ≡ no_schema
  pub same : s.committed.trees ≡ trees

-- the connection sees these trees, without a table, or holds the empty vault
abbrev pub HoldsFirst : State → Trees → Type 0
HoldsFirst s before = ∥ (IsBlank s before ⊎ Holds s empty_vault) ∥₁

-- the connection was just opened over files with these bytes, and found what they hold
pub record IsOpenOf {D : Type 0} {g : Ghosts D} (image : Image) (c : Held (FileStore D g)) : Type 0 where
  pub found : FindsIn image (file_state c)
  pub opened : IsOpened c

module _ {D : Type 0} {g : Ghosts D} where
  -- whatever bytes a crash may leave of the files now, they keep the vault
  abbrev pub Reopens : FileStore D g → Vault → Type 0
  Reopens it V = (left : Image) → (files.state it).may_leave left → Keeps left V

  -- they keep trees of which this is true
  abbrev pub ReopensSuch : FileStore D g → (Trees → Type 0) → Type 0
  ReopensSuch it Are = (left : Image) → (files.state it).may_leave left → KeepsSuch left Are

  -- they keep the one vault or the other
  abbrev pub ReopensEither : FileStore D g → Vault → Vault → Type 0
  ReopensEither it V W = ReopensSuch it (AreEither V W)

  -- they keep these trees or the empty vault
  abbrev pub ReopensFirst : FileStore D g → Trees → Type 0
  ReopensFirst it before = ReopensSuch it (AreFirst before)
