-- What a migration makes of the files at a path, and what it leaves.
use Rattle.std.specs.Prelude.{◌≡◌, ◌≢◌, ℕ, ℤ}
use Rattle.sqlite.specs.Effect.{Database}
use Rattle.sqlite.specs.Files.{file_state}
use Rattle.sqlite.specs.Held.{Held}
use Rattle.sqlite.specs.State.{HasCleanDisk}
use Rattle.sqlite.specs.Tree.{Trees}
use Rattle.sqlite.specs.View.{IsClean}
use Rattle.sqlite_catalog.specs.Listing.{IsSound}
use Rattle.sqlite_disk.specs.declared.Disk.{Ghosts}
use Rattle.sqlite_store.specs.FileStore.{view}
use Rattle.sqlite_store.specs.declared.store.FileStore.{FileStore}
use Rattle.sqlite_wal.specs.Recovery.{Image}
use Rattle.vault_core.specs.Sound.{Sound}
use Rattle.vault_core.specs.Vault.{Vault, empty_vault}
use Rattle.vault_file.specs.Found.{HoldsSuch, IsNoVerdict, LeavesFrom, LeavesWhole, MayFindNone}
use Rattle.vault_file.specs.Found.{SparesStopped, Stays, StaysWhole}
use Rattle.vault_file.specs.Reopened.{KeepsIn, KeepsSome, ReopensIn, ReopensSome}
use Rattle.vault_file.specs.declared.fault.NotOpened.{NotOpened}
use Rattle.vault_file.specs.declared.fault.NotOpened.TheVariants.{Fault}
use Rattle.vault_migrate.specs.Moved.{FindsBroken, FindsVersion, HoldsSoundIn, IsKnown, IsOlder, LeavesIn}
use Rattle.vault_migrate.specs.Moved.{LeavesSome}
use Rattle.vault_recover.specs.Crashed.{AreBlank, HoldsEither, IsOpenOf, Keeps, KeepsEither, KeepsFirst}
use Rattle.vault_recover.specs.Crashed.{MayFind, Reopens, ReopensEither, ReopensSuch}
use Rattle.vault_verdict.specs.Opened.{StandsSoundIn}
use Rattle.vault_verdict.specs.ReadAs.{IsFullIn}
use Rattle.vault_verdict.specs.declared.fault.OpenFault.TheVariants.{Damaged, Store, WrongSchema}
use Rattle.vault_schema.specs.Holds.{AreOurs, Holds}
use Rattle.vault_schema.specs.Stands.{newest}
use Rattle.vault_schema.specs.Versions.{schema_of}
use Rattle.vault_schema.specs.declared.version.Version.{Version}

-- an open of files with these bytes may find the tables of an older version
abbrev pub MayFindOlder : Image → Type 0
MayFindOlder image = (v : Version) × (found : Trees) × IsOlder v × IsSound (schema_of v) found
    × MayFind image found

-- A refusal of a migration tells what the bytes hold, in whatever version: 31 the least rule that the rows
-- break, and 30 the version that is said.
pub record TellsOld (image : Image) (why : NotOpened) : Type 0 where
  pub damaged : (rule : ℕ) → why ≡ Fault (Damaged rule) → HoldsSuch image (λ db. FindsBroken db rule)
  pub wrong : (n : ℤ) → why ≡ Fault (WrongSchema n) → HoldsSuch image (λ db. FindsVersion db n)

-- The same refusal is right: a sound vault isn't refused for its schema or its rows, in whatever version,
-- half moved, or as a stop may leave it.
pub record RefusesMove (image : Image) (why : NotOpened) : Type 0 where
  pub tells : TellsOld image why
  pub in_version : (v : Version) (V : Vault) → Sound V → KeepsIn v image V → IsNoVerdict why
  pub in_some : (V : Vault) → Sound V → KeepsSome image V → IsNoVerdict why
  pub spared : SparesStopped image why

-- A migration is done of such a database alone: where its schema is no version's it has no table; and where
-- no row lacks its last column it stands for a sound vault in its version, of which this is true.
pub record WasVault (db : Database) (Is : Vault → Type 0) : Type 0 where
  pub known : IsKnown db
  pub sound : (v : Version) → IsFullIn v db → (it : StandsSoundIn v db) × Is it.vault

module _ {D : Type 0} {g : Ghosts D} where
  -- A connection was opened over files with these bytes, and this one comes from moving what is there to the
  -- newest schema. A vault that the bytes keep, in whatever version, or in one on its way, as a migration
  -- that was stopped leaves it, is held in the newest one; without a table, the empty vault. The bytes hold
  -- no other program's tables, and the vault that they hold is the one that is held.
  pub record MovesFrom (image : Image) (conn : Held (FileStore D g)) : Type 0 where
    pub first : Held (FileStore D g)
    pub found : HasCleanDisk (file_state first) → IsOpenOf image first
    pub moved : HasCleanDisk (file_state conn)
        → (v : Version) (V : Vault) → KeepsIn v image V → Holds (file_state conn) V
    pub stopped : HasCleanDisk (file_state conn)
        → (V : Vault) → KeepsSome image V → ∥ Holds (file_state conn) V ∥₁
    pub either : HasCleanDisk (file_state conn)
        → (V W : Vault) → KeepsEither image V W → HoldsEither (file_state conn) V W
    pub blank : HasCleanDisk (file_state conn) → (before : Trees) → AreBlank before → KeepsFirst image before
        → ∥ Holds (file_state conn) empty_vault ∥₁
    pub sound : HasCleanDisk (file_state conn)
        → (v : Version) → IsOlder v → IsFullIn v (file_state first).now
        → HoldsSoundIn newest (file_state conn)
    pub stood : HasCleanDisk (file_state conn) → HoldsSuch image (λ db. WasVault db (Holds (file_state conn)))

  -- what a crash leaves of files with these bytes, which kept a vault in some version, after this refusal:
  -- that vault in some version, and in the one that it had alone after any refusal but 33
  pub record LeavesOld (image : Image) (refusal : NotOpened) (conn : Held (FileStore D g)) : Type 0 where
    pub some : HasCleanDisk (file_state conn)
        → (v : Version) (V : Vault) → KeepsIn v image V → LeavesSome V (file_state conn)
    pub stays : HasCleanDisk (file_state conn) → refusal ≢ Fault Store
        → (v : Version) (V : Vault) → KeepsIn v image V → LeavesIn v V (file_state conn)

  -- After such a refusal a crash leaves what was kept. Any number but 33 writes nothing; nor does 33 where
  -- there is a table, and no older version's tables are there.
  pub record LeavesUnmoved (image : Image) (why : NotOpened) (conn : Held (FileStore D g)) : Type 0 where
    pub left : LeavesFrom image conn
    pub old : LeavesOld image why conn
    pub same : why ≢ Fault Store → LeavesWhole image conn
    pub same_unmoved : ¬ MayFindNone image → ¬ MayFindOlder image → LeavesWhole image conn

  -- The files that are left of a migration that is done. A vault that the bytes keep, in whatever version or
  -- in one on its way, they keep in the newest one; without a table, the empty vault. The bytes hold no other
  -- program's tables, and the vault that they hold the files keep.
  pub record MovesAs (image : Image) (left : FileStore D g) : Type 0 where
    pub moved : IsClean (view left) → (v : Version) (V : Vault) → KeepsIn v image V → Reopens left V
    pub newest : IsClean (view left) → (V : Vault) → Keeps image V → Reopens left V
    pub stopped : IsClean (view left)
        → (V : Vault) → KeepsSome image V → ReopensSuch left (λ found. AreOurs found V)
    pub either : IsClean (view left) → (V W : Vault) → KeepsEither image V W → ReopensEither left V W
    pub blank : IsClean (view left) → (before : Trees) → AreBlank before → KeepsFirst image before
        → ReopensSuch left (λ found. AreOurs found empty_vault)
    pub stood : IsClean (view left) → HoldsSuch image (λ db. WasVault db (Reopens left))

  -- The files that are left of one that is refused. A vault that the bytes keep in some version they keep in
  -- that one, and after 33 in some version.
  pub record StaysOld (image : Image) (left : FileStore D g) (why : NotOpened) : Type 0 where
    pub stays : IsClean (view left) → why ≢ Fault Store
        → (v : Version) (V : Vault) → KeepsIn v image V → ReopensIn v left V
    pub some : IsClean (view left) → (v : Version) (V : Vault) → KeepsIn v image V → ReopensSome left V

  -- What they kept they keep. Any number but 33 writes nothing; nor does 33 where there is a table, and no
  -- older version's tables are there. The refusal is right.
  pub record StaysUnmoved (image : Image) (left : FileStore D g) (why : NotOpened) : Type 0 where
    pub refuses : IsClean (view left) → RefusesMove image why
    pub stays : Stays image left
    pub old : StaysOld image left why
    pub same : why ≢ Fault Store → StaysWhole image left
    pub same_unmoved : ¬ MayFindNone image → ¬ MayFindOlder image → StaysWhole image left
