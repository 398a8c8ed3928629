-- What a refusal says beside its number, and what it leaves.
use Rattle.std.specs.Prelude.{◌≡◌, ◌≢◌, ◌≤◌, ℕ, ℤ, pos, false, Result, Err, IfErr, IsErrAnd, OnOk}
use Rattle.sqlite.specs.Effect.{Database}
use Rattle.sqlite.specs.Held.{Held, state}
use Rattle.sqlite.specs.State.{HasCleanDisk, IsUnchanged}
use Rattle.sqlite.specs.View.{doubt}
use Rattle.sqlite_trees.specs.declared.store.Store.{Ghosts}
use Rattle.sql_tables.specs.Schema.{no_schema}
use Rattle.sql_tables.specs.States.{LeavesNoMore}
use Rattle.vault_schema.specs.Stands.{newest}
use Rattle.vault_schema.specs.Versioned.{HasVersion}
use Rattle.vault_schema.specs.Versions.{schema_of}
use Rattle.vault_schema.specs.declared.version.Version.{Version}
use Rattle.vault_verdict.specs.Faults.{IsJudged}
use Rattle.vault_verdict.specs.Names.{IsForeign, IsMixed, vault_names}
use Rattle.vault_verdict.specs.Opened.{IsBrokenIn, IsFit, IsLeastBroken, IsNoRefusal, IsVersionIn, IsWrong}
use Rattle.vault_verdict.specs.Opened.{IsNoDamage, LeavesFound, Opens}
use Rattle.vault_verdict.specs.ReadAs.{IsFullIn}
use Rattle.vault_verdict.specs.Reading.{IsFull, IsOurs, IsQuietWhere, IsUnreadFile, IsUnreadIn}
use Rattle.vault_verdict.specs.declared.fault.OpenFault.{OpenFault}
use Rattle.vault_verdict.specs.declared.fault.OpenFault.TheVariants.{Damaged, Store, WrongSchema}

-- ---- what is so of a database

-- where no row lacks its last column, the rows break this rule of the version and none below it
abbrev pub IsBrokenWhereFull : Version → Database → ℕ → Type 0
IsBrokenWhereFull v db rule = IsFullIn v db → IsBrokenIn v db rule

-- so in the newest version, whatever the schema is
abbrev pub IsLeastWhereFull : Database → ℕ → Type 0
IsLeastWhereFull db rule = IsFull db → IsLeastBroken db rule

-- in the schema of the version another one is told
abbrev pub IsOtherIn : Version → Database → ℤ → Type 0
IsOtherIn v db n = db.schema ≡ schema_of v → IsVersionIn v db n

-- this is so of a database without a version in which some of a vault's names are, and not all, or not alone
abbrev pub WhereMixed : Database → Type 0 → Type 0
WhereMixed db Is = IsForeign db.schema → ¬ HasVersion db.schema → IsMixed db.schema vault_names → Is

-- and this of one in which all of them are, in another order or form, or none
abbrev pub WhereStrange : Database → Type 0 → Type 0
WhereStrange db Is = IsForeign db.schema → ¬ HasVersion db.schema → ¬ IsMixed db.schema vault_names → Is

-- ---- what a call says and leaves

-- it isn't refused by 30
abbrev pub TellsNoVersion : {R : Type 0} → Result R OpenFault → Type 0
TellsNoVersion result = IfErr result (λ e. (n : ℤ) → e ≢ WrongSchema n)

module _ {S : Type 0} (g : Ghosts S) where
  -- the call is quiet in the schema of the version
  abbrev pub IsStill : Version → Held S → Held S → Type 0
  IsStill v old new = IsQuietWhere ((state g old).now.schema ≡ schema_of v) (state g old) (state g new)

  -- and so where the database has a version, whichever
  abbrev pub IsStillVersioned : Held S → Held S → Type 0
  IsStillVersioned old new = IsQuietWhere (HasVersion (state g old).now.schema) (state g old) (state g new)

  -- with Ok nothing changed in the schema of the version
  abbrev pub IsUntouched : {R : Type 0} → Version → Held S → Held S → Result R OpenFault → Type 0
  IsUntouched v old new result =
      HasCleanDisk (state g new) → OnOk result ((state g old).now.schema ≡ schema_of v
      → IsUnchanged (state g old) (state g new))

  -- 31 says a rule of which this is so
  abbrev pub RowsBreak : {R : Type 0} → Held S → Held S → Result R OpenFault → (Database → ℕ → Type 0)
      → Type 0
  RowsBreak old new result Is =
      HasCleanDisk (state g new) → IfErr result
      (λ e. (rule : ℕ) → e ≡ Damaged rule → Is (state g old).now rule)

  -- 30 says a version of which this is so
  abbrev pub TellsOther : {R : Type 0} → Held S → Held S → Result R OpenFault → (Database → ℤ → Type 0)
      → Type 0
  TellsOther old new result Is =
      HasCleanDisk (state g new) → IfErr result (λ e. (n : ℤ) → e ≡ WrongSchema n → Is (state g old).now n)

  -- neither comes to such a database
  abbrev pub SparesFit : {R : Type 0} → Held S → Held S → Result R OpenFault → (Database → Type 0) → Type 0
  SparesFit old new result IsFit =
      HasCleanDisk (state g new) → IfErr result (λ e. IsFit (state g old).now → IsNoRefusal e)

  -- 33 comes to full rows of the version only where a table isn't read, or a rowid comes twice
  abbrev pub TellsUnreadIn : {R : Type 0} → Version → Held S → Held S → Result R OpenFault → Type 0
  TellsUnreadIn v old new result =
      HasCleanDisk (state g new)
      → IfErr result (λ e. e ≡ Store → IsFullIn v (state g old).now → IsUnreadIn g v (state g old).now new)

  -- so in the newest version
  abbrev pub TellsUnread : {R : Type 0} → Held S → Held S → Result R OpenFault → Type 0
  TellsUnread = TellsUnreadIn newest

  -- after 30 and 31 the connection sees what it saw, where this is so
  abbrev pub LeavesSeen : {R : Type 0} → Held S → Held S → Result R OpenFault → Type 0 → Type 0
  LeavesSeen old new result Where =
      HasCleanDisk (state g new)
      → IfErr result (λ e. IsJudged e → Where → IsUnchanged (state g old) (state g new))

  -- so where the database has a version, whichever
  abbrev pub LeavesVersionSeen : {R : Type 0} → Held S → Held S → Result R OpenFault → Type 0
  LeavesVersionSeen old new result = LeavesSeen old new result (HasVersion (state g old).now.schema)

  -- with Ok the vault is open that was there, or the empty one
  abbrev pub OpensAs : {R : Type 0} → Held S → Held S → Result R OpenFault → Type 0
  OpensAs old new result = HasCleanDisk (state g new) → OnOk result (Opens (state g old) (state g new))

  -- a crash leaves what was found
  abbrev pub LeavesAsFound : Held S → Held S → Type 0
  LeavesAsFound old new = HasCleanDisk (state g new) → LeavesFound (state g old) (state g new)

  -- where there is a table, the call is quiet if the database has a version
  abbrev pub IsStillWhereSome : Held S → Held S → Type 0
  IsStillWhereSome old new = ¬ ((state g old).now.schema ≡ no_schema) → IsStillVersioned old new

  -- A crash leaves what was found, a disk that is honest after the call was so before it, and the connection
  -- is outside a transaction.
  pub record LeavesIdle (old new : Held S) : Type 0 where
    pub left : LeavesAsFound old new
    pub clean : doubt (state g old).is_clean ≤ doubt (state g new).is_clean
    pub idle : new.in_transaction ≡ false

  -- A database is refused by this, and the connection goes on so. 31 says the least rule that full rows
  -- break, 30 another version that is told, or 0; 33 comes to a database in the newest schema, with full
  -- rows, only where a table isn't read; neither 30 nor 31 comes to a sound vault, or to a database without a
  -- table.
  pub record Refuses (old new : Held S) (why : OpenFault) : Type 0 where
    pub damaged : HasCleanDisk (state g new) → (rule : ℕ) → why ≡ Damaged rule
        → IsLeastWhereFull (state g old).now rule
    pub wrong : HasCleanDisk (state g new) → (n : ℤ) → why ≡ WrongSchema n → IsWrong (state g old).now n
    pub unread : HasCleanDisk (state g new) → why ≡ Store → IsOurs (state g old).now
        → IsUnreadFile g (state g old).now new
    pub spared : HasCleanDisk (state g new) → IsFit (state g old).now → IsNoRefusal why
    -- after 30 and 31 the connection sees what it saw, where the database has a version
    pub unchanged : HasCleanDisk (state g new) → IsJudged why → HasVersion (state g old).now.schema
        → IsUnchanged (state g old) (state g new)
    pub nothing_new : IsStillWhereSome old new
    pub leaves : LeavesIdle old new

  -- What 30, 31 and 33 say of the rows: 31 the least rule that full rows break, 30 another version that is
  -- told, or 0; neither comes to a sound vault, or to a database without a table.
  pub record JudgesRows {R : Type 0} (old new : Held S) (result : Result R OpenFault) : Type 0 where
    pub damaged : RowsBreak old new result IsLeastWhereFull
    pub wrong : TellsOther old new result IsWrong
    pub spared : SparesFit old new result IsFit

  -- A schema that is neither the newest nor empty is refused, and not by 31. Without a version it is refused
  -- by 30 with 0 where a vault's names are mixed, else by 33, and nothing changes.
  pub record RefusesForeign {R : Type 0} (old new : Held S) (result : Result R OpenFault) : Type 0 where
    pub refused : IsForeign (state g old).now.schema → IsErrAnd result IsNoDamage
    pub mixed : WhereMixed (state g old).now ((result ≡ Err (WrongSchema (pos 0))) × (new ≡ old))
    pub strange : WhereStrange (state g old).now ((result ≡ Err Store) × (new ≡ old))

  -- A vault is open that was there, or the empty one; a crash leaves what was found, and a disk that is
  -- honest now was so before.
  pub record OpensFile (old new : Held S) : Type 0 where
    pub opens : HasCleanDisk (state g new) → Opens (state g old) (state g new)
    pub left : LeavesAsFound old new
    pub clean : doubt (state g old).is_clean ≤ doubt (state g new).is_clean

  -- a refusal by any number but 33 writes nothing
  abbrev pub WritesNothing : {R : Type 0} → Held S → Held S → Result R OpenFault → Type 0
  WritesNothing old new result =
      HasCleanDisk (state g new)
      → IfErr result (λ e. e ≢ Store → LeavesNoMore (state g old) (state g new))
