-- What an open finds.
use Rattle.std.specs.Prelude.{◌≡◌, ◌≢◌, ◌⊎◌, ℕ, ℤ, pos, List, map, Some, None, IsTrue}
use Rattle.std.specs.List.Sorted.{IsPermutation}
use Rattle.sqlite.specs.Effect.{Database, IsDatabase}
use Rattle.sqlite.specs.State.{State}
use Rattle.sqlite.specs.Tree.{Trees}
use Rattle.vault_core.specs.Sound.{Sound}
use Rattle.vault_core.specs.Vault.{Vault, empty_vault}
use Rattle.vault_verdict.specs.Names.{IsMixed, vault_names}
use Rattle.vault_tables.specs.MerchantTexts.{merchant_values}
use Rattle.vault_tables.specs.RightTexts.{right_values}
use Rattle.vault_tables.specs.CountTexts.{count_values}
use Rattle.vault_tables.specs.EntryTexts.{old_entry_values}
use Rattle.vault_tables.specs.RecordTexts.{record_values}
use Rattle.vault_tables.specs.VersionTexts.{version_values}
use Rattle.vault_verdict.specs.ReadAs.{AreEntries, merchants_in, replaced_in, rights_in}
use Rattle.vault_verdict.specs.Reading.{IsOurs, shown_by, version_columns}
use Rattle.vault_verdict.specs.Sizes.{sizes_of}
use Rattle.vault_verdict.specs.Versions.{other_than, other_version}
use Rattle.vault_tables.specs.declared.entries.old.OldEntry.{OldEntry}
use Rattle.vault_verdict.specs.declared.fault.OpenFault.{OpenFault}
use Rattle.vault_verdict.specs.declared.fault.OpenFault.TheVariants.{WrongSchema, Damaged}
use Rattle.vault_verdict.specs.declared.sizes.Sizes.{Sizes}
use Rattle.vault_rules.specs.Rules as rules
use Rattle.vault_rules.specs.declared.rows.RawVersion.{RawVersion}
use Rattle.vault_rules.specs.AllRows.{Rows}
use Rattle.vault_schema.specs.Versioned.{HasVersion}
use Rattle.vault_schema.specs.Holds.{Holds, LeavesEither, LeavesFirst}
use Rattle.vault_schema.specs.Making.{IsReady}
use Rattle.sql_tables.specs.Schema.{no_schema}
use Rattle.vault_schema.specs.Schema.{newest_schema}
use Rattle.vault_schema.specs.Stands.{Stands, lookups_of, newest}
use Rattle.vault_schema.specs.Layers.{Either}
use Rattle.vault_schema.specs.Versions.{Stand, has_cards, number_of, schema_of}
use Rattle.vault_schema.specs.declared.version.Version.{Version}

-- the rows of `vault` as they stand, in some order
abbrev pub AreVersions : Trees → List RawVersion → Type 0
AreVersions db versions = IsPermutation (map (shown_by version_columns) (db 0)) (map version_values versions)

-- the rows of all tables of a version, read as those of the newest one, each in some order; of the tables
-- that were replaced, how many still have rows
pub record AreRaws (v : Version) (db : Trees) (olders : List OldEntry) (rows : Rows) : Type 0 where
  pub versions : AreVersions db rows.versions
  pub merchants : IsPermutation (merchants_in v db) (map merchant_values rows.merchants)
  pub counts : IsPermutation (db 3) (map count_values rows.counts)
  pub entries : AreEntries v db olders rows
  pub records : IsPermutation (db 8) (map record_values rows.records)
  pub rights : IsPermutation (rights_in v db) (map right_values rows.rights)
  pub replaced : rows.replaced ≡ replaced_in v db

-- the rows of `entries`, the table of schema 1, as they stand; a later schema has none
abbrev pub AreOldersIn : Version → Trees → List OldEntry → Type 0
AreOldersIn v db olders = Either (has_cards v) (Unit {0}) (IsPermutation (db 5) (map old_entry_values olders))

-- the version is this one, and the rows break this rule and none below it
pub record IsBrokenIn (v : Version) (db : Database) (rule : ℕ) : Type 0 where
  pub olders : List OldEntry
  pub rows : Rows
  pub is : IsDatabase db
  pub are : AreRaws v db.trees olders rows
  pub version : other_than (number_of v) rows.versions ≡ None
  pub least : rules.IsLeastBroken rows rule

-- so in the newest version
abbrev pub IsLeastBroken : Database → ℕ → Type 0
IsLeastBroken db rule = IsBrokenIn newest db rule

-- the row of `vault` with the id 1 says the version n, which isn't this one
pub record IsVersionIn (v : Version) (db : Database) (n : ℤ) : Type 0 where
  pub versions : List RawVersion
  pub are : AreVersions db.trees versions
  pub says : other_than (number_of v) versions ≡ Some n

-- the database has a version: the row of `vault` with the id 1 says this one, which isn't the newest
pub record IsOtherVersion (db : Database) (n : ℤ) : Type 0 where
  pub first : HasVersion db.schema
  pub versions : List RawVersion
  pub are : AreVersions db.trees versions
  pub says : other_version versions ≡ Some n

-- the row of `vault` with the id 1 says the newest version, or there is no such row
pub record IsThisVersion (db : Database) : Type 0 where
  pub versions : List RawVersion
  pub are : AreVersions db.trees versions
  pub says : other_version versions ≡ None

-- another version is told nowhere
abbrev pub SaysNoOther : Database → Type 0
SaysNoOther db = HasVersion db.schema → IsThisVersion db

-- the database stands for a sound vault in this version
pub record StandsSoundIn (v : Version) (db : Database) : Type 0 where
  pub schema : db.schema ≡ schema_of v
  pub vault : Vault
  pub sound : Sound vault
  pub stand : Stand v db.trees (lookups_of vault)

-- and that vault has these sizes
pub record IsSoundIn (v : Version) (db : Database) (sizes : Sizes) : Type 0 where
  pub is : IsDatabase db
  pub it : StandsSoundIn v db
  pub sizes_are : sizes ≡ sizes_of it.vault

-- so in the newest version
abbrev pub StandsSound : Database → Type 0
StandsSound db = StandsSoundIn newest db

abbrev pub IsSoundOf : Database → Sizes → Type 0
IsSoundOf db sizes = IsSoundIn newest db sizes

-- these are the sizes of the vault there: the empty one, where there is no table
abbrev pub HasSizes : Database → Sizes → Type 0
HasSizes db sizes = (db.schema ≡ no_schema) × (sizes ≡ sizes_of empty_vault) ⊎ IsSoundOf db sizes

-- the connection holds a sound vault
pub record HoldsSound (s : State) : Type 0 where
  pub vault : Vault
  pub sound : Sound vault
  pub holds : Holds s vault

-- another version, wherever one is told; else 0, where some of a vault's names are taken and not all, or
-- not alone
abbrev pub IsWrong : Database → ℤ → Type 0
IsWrong db n = IsOtherVersion db n ⊎ ((n ≡ pos 0) × IsMixed db.schema vault_names × SaysNoOther db)

-- a refusal by another version, or this one where no other is told
abbrev pub TellsVersion : Database → OpenFault → OpenFault → Type 0
TellsVersion db refusal e =
    ((n : ℤ) × (e ≡ WrongSchema n) × IsOtherVersion db n) ⊎ ((e ≡ refusal) × SaysNoOther db)

-- the database stands for a sound vault, or has no table, index or view
abbrev pub IsFit : Database → Type 0
IsFit db = StandsSound db ⊎ (db.schema ≡ no_schema)

-- what may be answered to a database in another schema: no damage
abbrev pub IsNoDamage : OpenFault → Type 0
IsNoDamage e = (rule : ℕ) → e ≢ Damaged rule

-- what may be answered to a database that is fit: neither a wrong schema nor damage
abbrev pub IsNoRefusal : OpenFault → Type 0
IsNoRefusal e = ((n : ℤ) → e ≢ WrongSchema n) × IsNoDamage e

-- A vault's tables hold a sound vault and are as they were, so a vault that they stand for is held; without a
-- table they hold the empty vault.
pub record Opens (old new : State) : Type 0 where
  pub whose : (old.now.schema ≡ no_schema) ⊎ (old.now.schema ≡ newest_schema)
  pub ours : IsOurs old.now → HoldsSound new × (new.now ≡ old.now)
  pub same : IsOurs old.now → (V : Vault) → Stands old.now.trees V → Holds new V
  pub blank : IsTrue old.is_open → old.now.schema ≡ no_schema → Holds new empty_vault

-- What a crash may leave now: where a vault was held, that vault; where there was no table, what was
-- committed or the empty vault.
pub record LeavesFound (old new : State) : Type 0 where
  pub held : (V : Vault) → Holds old V → LeavesEither new V V
  pub blank : IsReady old → old.now.schema ≡ no_schema → LeavesFirst new old.committed.trees
