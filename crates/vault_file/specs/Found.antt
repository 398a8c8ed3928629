-- What is found in the files at a path.
use Rattle.std.specs.Prelude.{◌≡◌, ◌≢◌, ◌⊎◌, ◌≤◌, ℕ, ℤ, List, [], codes, take}
use Rattle.sqlite.specs.Effect.{Database, IsDatabase}
use Rattle.sqlite.specs.Files.{AreFoundIn, file_state}
use Rattle.sqlite.specs.Held.{Held}
use Rattle.sqlite.specs.State.{HasCleanDisk}
use Rattle.sqlite.specs.Tree.{Trees}
use Rattle.sqlite.specs.View.{IsClean, doubt}
use Rattle.sqlite_disk.specs.declared.Disk.{Ghosts}
use Rattle.sqlite_store.specs.FileStore.{view}
use Rattle.sqlite_store.specs.declared.store.FileStore.{FileStore}
use Rattle.sqlite_wal.specs.Recovery.{Image}
use Rattle.vault_core.specs.Sound.{Sound}
use Rattle.vault_core.specs.Vault.{Vault, empty_vault}
use Rattle.vault_file.specs.Faults.{refusal_of}
use Rattle.vault_file.specs.Reopened.{KeepsSome, ReopensSome}
use Rattle.vault_migrate.specs.Moved.{LeavesSome}
use Rattle.vault_file.specs.declared.fault.NotOpened.{NotOpened}
use Rattle.vault_file.specs.declared.fault.NotOpened.TheVariants.{Fault}
use Rattle.vault_refusal.specs.Refusal.{number_of}
use Rattle.vault_recover.specs.Crashed.{AreBlank, HoldsEither, IsOpenOf}
use Rattle.vault_recover.specs.Crashed.{Keeps, KeepsEither, KeepsFirst, MayFind, Reopens, ReopensEither}
use Rattle.vault_recover.specs.Crashed.{ReopensFirst}
use Rattle.vault_verdict.specs.Opened.{HasSizes, IsLeastBroken, IsWrong, Opens}
use Rattle.vault_verdict.specs.declared.fault.OpenFault.TheVariants.{Damaged, WrongSchema}
use Rattle.vault_verdict.specs.Reading.{IsFull}
use Rattle.vault_verdict.specs.declared.sizes.Sizes.{Sizes}
use Rattle.vault_schema.specs.Holds.{AreOurs, Holds, LeavesEither, LeavesFirst}
use Rattle.sqlite.specs.Schema.{Schema}
use Rattle.sqlite_catalog.specs.Listing.{IsSound}
use Rattle.sqlite_store.specs.FileStore as files
use Rattle.sql_tables.specs.Schema.{no_schema}
use Rattle.vault_schema.specs.Schema.{newest_schema}

-- no file's name: nothing at all, `:memory:`, and what begins with `file:`
abbrev pub IsNoPath : List ℕ → Type 0
IsNoPath path = (path ≡ []) ⊎ ((path ≡ codes ":memory:") ⊎ (take 5 path ≡ codes "file:"))

-- the database that an open of files with these bytes finds: the one that the bytes hold
pub record IsFoundIn (image : Image) (db : Database) : Type 0 where
  pub is : IsDatabase db
  pub holds : MayFind image db.trees
  pub reads : AreFoundIn image db.trees

-- Files with these bytes hold a database of which this is true.
abbrev pub HoldsSuch : Image → (Database → Type 0) → Type 0
HoldsSuch image IsSuch = (db : Database) × IsFoundIn image db × IsSuch db

-- neither a wrong schema nor damage
abbrev pub IsNoVerdict : NotOpened → Type 0
IsNoVerdict why = (number_of (refusal_of why) ≢ 30) × (number_of (refusal_of why) ≢ 31)

-- Whatever a stop leaves of a sound vault isn't refused for its schema or its rows, by 30 or 31: not where
-- the files keep the vault, nor where they keep one of two, nor where they have no table yet or just the
-- first ones.
pub record SparesStopped (image : Image) (why : NotOpened) : Type 0 where
  pub one : (V : Vault) → Sound V → Keeps image V → IsNoVerdict why
  pub either : (V W : Vault) → Sound V → Sound W → KeepsEither image V W → IsNoVerdict why
  pub first : (before : Trees) → AreBlank before → KeepsFirst image before → IsNoVerdict why

-- A refusal tells what the bytes hold: 31 the least rule that the rows break, and 30 the version that is
-- said, or 0 where some of a vault's names are there, and not all, or not alone.
pub record TellsFound (image : Image) (why : NotOpened) : Type 0 where
  pub damaged : (rule : ℕ) → why ≡ Fault (Damaged rule)
      → HoldsSuch image (λ db. IsFull db → IsLeastBroken db rule)
  pub wrong : (n : ℤ) → why ≡ Fault (WrongSchema n) → HoldsSuch image (λ db. IsWrong db n)

-- A refusal is right: it tells what the bytes hold, and whatever a stop leaves of a sound vault isn't refused
-- for its schema or its rows.
pub record RefusesRightly (image : Image) (why : NotOpened) : Type 0 where
  pub tells : TellsFound image why
  pub spared : SparesStopped image why

-- an open of files with these bytes may find no table
abbrev pub MayFindNone : Image → Type 0
MayFindNone image = (found : Trees) × AreBlank found × MayFind image found

-- A check tells these sizes of such a database alone: it has no table, or those of a vault and no others; and
-- where no row lacks its last column, the sizes are its.
pub record IsVaultOf (db : Database) (sizes : Sizes) : Type 0 where
  pub whose : (db.schema ≡ no_schema) ⊎ (db.schema ≡ newest_schema)
  pub sizes_are : IsFull db → HasSizes db sizes

module _ {D : Type 0} {g : Ghosts D} where
  -- A connection was opened over files with these bytes, and this one comes from opening the vault there.
  -- What a stop left is found: a vault that the bytes keep is held, and of two that they may keep one; where
  -- a stop came while the tables were made, the empty vault.
  pub record OpensFrom (image : Image) (conn : Held (FileStore D g)) : Type 0 where
    pub first : Held (FileStore D g)
    pub clean : doubt (file_state first).is_clean ≤ doubt (file_state conn).is_clean
    pub found : HasCleanDisk (file_state first) → IsOpenOf image first
    pub opens : HasCleanDisk (file_state conn) → Opens (file_state first) (file_state conn)
    pub again : HasCleanDisk (file_state conn)
        → (V : Vault) → Sound V → Keeps image V → Holds (file_state conn) V
    pub either : HasCleanDisk (file_state conn)
        → (V W : Vault) → Sound V → Sound W → KeepsEither image V W → HoldsEither (file_state conn) V W
    pub empty : HasCleanDisk (file_state conn) → (before : Trees) → AreBlank before → KeepsFirst image before
        → ∥ Holds (file_state conn) empty_vault ∥₁
    pub some : HasCleanDisk (file_state conn)
        → (V : Vault) → Sound V → KeepsSome image V → ∥ Holds (file_state conn) V ∥₁
    pub stands : HasCleanDisk (file_state conn)
        → (V : Vault) → Sound V → AreOurs (file_state first).committed.trees V → Holds (file_state conn) V

  -- A connection was opened over files with these bytes, and this one comes from opening the vault there. A
  -- crash leaves what was found: a vault, or one of two; where there was no table, that or the empty vault.
  pub record LeavesFrom (image : Image) (conn : Held (FileStore D g)) : Type 0 where
    pub first : Held (FileStore D g)
    pub clean : doubt (file_state first).is_clean ≤ doubt (file_state conn).is_clean
    pub found : HasCleanDisk (file_state first) → IsOpenOf image first
    pub held : HasCleanDisk (file_state conn)
        → (V : Vault) → Keeps image V → LeavesEither (file_state conn) V V
    pub either : HasCleanDisk (file_state conn)
        → (V W : Vault) → KeepsEither image V W → ∥ LeavesEither (file_state conn) V W ∥₁
    pub blank : HasCleanDisk (file_state conn)
        → (file_state first).now.schema ≡ no_schema → AreBlank (file_state first).committed.trees
        × LeavesFirst (file_state conn) (file_state first).committed.trees
    pub empty : HasCleanDisk (file_state conn) → (before : Trees) → AreBlank before → KeepsFirst image before
        → ∥ LeavesFirst (file_state conn) before ∥₁
    pub some : HasCleanDisk (file_state conn)
        → (V : Vault) → KeepsSome image V → ∥ LeavesSome V (file_state conn) ∥₁

  -- The files that are left where a vault isn't opened. What they kept they keep: a vault, or one of two;
  -- or one in some version; where there was no table, that or the empty vault.
  pub record Stays (image : Image) (left : FileStore D g) : Type 0 where
    pub either : IsClean (view left) → (V W : Vault) → KeepsEither image V W → ReopensEither left V W
    pub empty : IsClean (view left) → (before : Trees) → AreBlank before → KeepsFirst image before
        → ReopensFirst left before
    pub some : IsClean (view left) → (V : Vault) → KeepsSome image V → ReopensSome left V

  -- a crash leaves of this connection what was found in the bytes, and nothing else
  abbrev pub LeavesWhole : Image → Held (FileStore D g) → Type 0
  LeavesWhole image conn = HasCleanDisk (file_state conn) → (schema : Schema) × (found : Trees)
      × IsSound schema found × MayFind image found
      × ((db : Trees) → (file_state conn).may_leave db → db ≡ found)

  -- Whatever is in the files stays there, a vault in any schema, another program's tables or damage: whoever
  -- opens what a crash may leave of them finds what was in these bytes.
  abbrev pub StaysWhole : Image → FileStore D g → Type 0
  StaysWhole image left = IsClean (view left) → (next : Image) → (files.state left).may_leave next
      → (found : Trees) → MayFind next found → MayFind image found

  -- The files that are left of a check that came to these sizes. The bytes hold no other program's tables,
  -- and the sizes are those of the vault that they hold; and a vault that the bytes keep they keep.
  pub record ChecksAs (image : Image) (left : FileStore D g) (sizes : Sizes) : Type 0 where
    pub sizes_are : IsClean (view left) → HoldsSuch image (λ db. IsVaultOf db sizes)
    pub kept : IsClean (view left) → (V : Vault) → Sound V → Keeps image V → Reopens left V
