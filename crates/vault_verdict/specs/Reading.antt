-- Reading the whole of a table.
use Rattle.std.specs.List.{filter_map}
use Rattle.std.specs.Prelude.{◌≡◌, ◌≤◌, ◌⊎◌, false, List, [], ◌∷◌, map}
use Rattle.std.specs.Prelude.{Result, IfOk}
use Rattle.sqlite.specs.Effect.{Database}
use Rattle.sqlite.specs.Held.{Held, state}
use Rattle.sqlite.specs.Order.{Row}
use Rattle.sqlite.specs.State.{State, HasCleanDisk}
use Rattle.sqlite.specs.Term.{Term, eval_all, col}
use Rattle.sqlite.specs.View.{doubt}
use Rattle.sqlite_trees.specs.declared.store.Store.{Ghosts}
use Rattle.sql_tables.specs.States.{LeavesNoMore, Reads}
use Rattle.vault_verdict.specs.Apart.{SharesRowid}
use Rattle.vault_verdict.specs.Made.{as_card, as_entry}
use Rattle.vault_tables.specs.CardTexts.{card_row, card_values}
use Rattle.vault_tables.specs.CountTexts.{count_values}
use Rattle.vault_tables.specs.EntryTexts.{entry_values}
use Rattle.vault_tables.specs.EntryTexts.{old_entry_values}
use Rattle.vault_tables.specs.RecordTexts.{record_values}
use Rattle.vault_tables.specs.VersionTexts.{version_values}
use Rattle.vault_verdict.specs.ReadAs.{AreFull, AreMerchantsFull, AreRightsFull, IsFullIn, IsUnreadReplaced}
use Rattle.vault_verdict.specs.ReadAs.{merchants_in, merchants_text, replaced_in, rights_in, rights_text}
use Rattle.vault_tables.specs.Taken.{CardsTaken}
use Rattle.vault_verdict.specs.declared.behind.Behind.{Behind}
use Rattle.vault_verdict.specs.declared.first_rows.First.{First}
use Rattle.vault_verdict.specs.declared.whole_tables.WithCards.{WithCards}
use Rattle.sql_tables.specs.Reading.{AreLonger, AreTable, InSchema, IsAny, IsUnread}
use Rattle.vault_verdict.specs.ReadIn.{RefusesIn}
use Rattle.sql_tables.specs.declared.fault.StoreFault.{StoreFault}
use Rattle.vault_rules.specs.declared.rows.RawCard.{RawCard}
use Rattle.vault_rules.specs.HeldRows.{HoldCards}
use Rattle.vault_rules.specs.Seen.{HasEntries, HasRecords}
use Rattle.vault_rules.specs.declared.entries.Entries.{Entries}
use Rattle.vault_rules.specs.declared.index.Index.{Index}
use Rattle.vault_rules.specs.declared.records.Records.{Records}
use Rattle.vault_rules.specs.declared.rows.RawEntry.{RawEntry}
use Rattle.vault_rules.specs.declared.rows.RawRecord.{RawRecord}
use Rattle.vault_tables.specs.declared.entries.old.OldEntry.{OldEntry}
use Rattle.vault_tables.specs.declared.counts.TheConstants.{READ_COUNTS}
use Rattle.vault_tables.specs.declared.entries.old.TheConstants.{READ_OLD_ENTRIES}
use Rattle.vault_tables.specs.declared.records.TheConstants.{READ_RECORDS}
use Rattle.vault_tables.specs.declared.versions.TheConstants.{READ_VERSIONS}
use Rattle.vault_tables.specs.declared.cards.TheConstants.{READ_CARDS}
use Rattle.vault_tables.specs.declared.entries.TheConstants.{READ_ENTRIES}
use Rattle.vault_tables.specs.MerchantTexts.{merchant_values}
use Rattle.vault_tables.specs.RightTexts.{right_values}
use Rattle.vault_schema.specs.Stands.{newest}
use Rattle.vault_schema.specs.Layers.{Either}
use Rattle.vault_schema.specs.Versioned.{HasVersion}
use Rattle.vault_schema.specs.Versions.{has_cards, schema_of}
use Rattle.vault_schema.specs.declared.version.Version.{Version}
use Rattle.vault_schema.specs.Schema.{newest_schema}

-- what the terms show of a row
abbrev pub shown_by : List Term → Row → Row
shown_by project row = eval_all project ([] ∷ row ∷ [])

-- the id and the version of a row of `vault`: the id stands in the rowid
abbrev pub version_columns : List Term
version_columns = col 1 0 ∷ col 1 2 ∷ []

-- the premise on a file of the newest version
abbrev pub IsFull : Database → Type 0
IsFull db = AreFull newest db.trees

-- a database in the newest schema, with full rows
abbrev pub IsOurs : Database → Type 0
IsOurs db = IsFullIn newest db

-- the premise on the table of entries of schema 1, and on that of entries that point at cards
abbrev pub AreOldFull : Database → Type 0
AreOldFull db = AreLonger 7 (db.trees 5)

abbrev pub ArePointingFull : Database → Type 0
ArePointingFull db = AreLonger 7 (db.trees 14)

-- what was read of the cards
abbrev pub AreCardTable : Database → List RawCard → Type 0
AreCardTable db raws = AreTable IsAny (λ t. t 12) card_row (λ c. c.id) db raws

-- the cards were taken, each as it was read
abbrev pub TakesCards : Database → Index → WithCards → Type 0
TakesCards db start it = (raws : List RawCard) × CardsTaken start it.index raws × AreCardTable db raws

-- what was read of the entries of schema 1, and the cards of them
pub record AreOldCards (db : Database) (olders : List OldEntry) (cards : List RawCard) : Type 0 where
  pub read : AreTable AreOldFull (λ t. t 5) old_entry_values (λ o. o.rowid) db olders
  pub made : filter_map as_card olders ≡ map card_values cards

-- the cards of a version, with the entries of schema 1
abbrev pub AreCardsIn : Version → Database → List OldEntry → List RawCard → Type 0
AreCardsIn v db olders cards =
    Either (has_cards v) (AreCardTable db cards) (AreOldCards db olders cards)

-- the entries of a version: those of schema 1 are made of the old ones
abbrev pub AreEntriesIn : Version → Database → List OldEntry → List RawEntry → Type 0
AreEntriesIn v db olders entries =
    Either (has_cards v) (AreTable ArePointingFull (λ t. t 14) entry_values (λ e. e.rowid) db entries)
    (map as_entry olders ≡ map entry_values entries)

-- the rows of a version that cards and entries name
pub record AreFirst (v : Version) (db : Database) (it : First) : Type 0 where
  pub merchants : AreTable (AreMerchantsFull v) (merchants_in v) merchant_values (λ m. m.rowid) db
      it.merchants.items
  pub counts : AreTable IsAny (λ t. t 3) count_values (λ c. c.rowid) db it.counts.items

-- the entries and the records of a version were taken
pub record AreTaken (v : Version) (db : Database) (olders : List OldEntry) (start : Entries) (it : Records)
    : Type 0 where
  pub entries : List RawEntry
  pub records : List RawRecord
  pub index_is : (cards : List RawCard) → HasEntries start cards [] → it.entries.index ≡ start.index
  pub entries_came : (cards : List RawCard) → HasEntries start cards [] → HasEntries it.entries cards entries
  pub records_came : HasRecords it records
  pub entries_are : AreEntriesIn v db olders entries
  pub records_are : AreTable IsAny (λ t. t 8) record_values (λ r. r.rowid) db records

-- the rows of a version behind the first ones were taken
pub record AreBehind (v : Version) (db : Database) (olders : List OldEntry) (index : Index) (it : Behind)
    : Type 0 where
  pub entries : List RawEntry
  pub records : List RawRecord
  pub index_is : (cards : List RawCard) → HoldCards index.merchants.now index.cards cards
      → it.records.entries.index ≡ index
  pub entries_came : (cards : List RawCard) → HoldCards index.merchants.now index.cards cards
      → HasEntries it.records.entries cards entries
  pub records_came : HasRecords it.records records
  pub entries_are : AreEntriesIn v db olders entries
  pub records_are : AreTable IsAny (λ t. t 8) record_values (λ r. r.rowid) db records
  pub rights : AreTable (AreRightsFull v) (rights_in v) right_values (λ r. r.rowid) db it.rights.items
  pub replaced : it.replaced ≡ replaced_in v db.trees

module _ {S : Type 0} (g : Ghosts S) where
  -- of a database whose schema has a version, on an honest disk, this is so
  abbrev pub InVersioned : Held S → Held S → (Database → Type 0) → Type 0
  InVersioned old new Says =
      HasCleanDisk (state g new) → HasVersion (state g old).now.schema → Says (state g old).now

  -- why the rows of `vault` aren't read, though memory is there
  abbrev pub AreVersionsUnread : Database → Held S → Type 0
  AreVersionsUnread db new = IsUnread g READ_VERSIONS.now version_values db new

  -- why the cards or the entries that point at them aren't read, though memory is there
  abbrev pub IsUnreadCards : Database → Held S → Type 0
  IsUnreadCards db new =
      IsUnread g READ_CARDS.now card_values db new ⊎ IsUnread g READ_ENTRIES.now entry_values db new

  -- why the entries of a version, or their cards, aren't
  abbrev pub IsUnreadEntries : Version → Database → Held S → Type 0
  IsUnreadEntries v db new =
      Either (has_cards v) (IsUnreadCards db new) (IsUnread g READ_OLD_ENTRIES.now old_entry_values db new)

  -- the cards of a version are taken, with the entries of schema 1, and nothing else is done
  pub record ReadsCards (v : Version) (start : Index) (result : Result WithCards StoreFault)
      (old new : Held S) : Type 0 where
    pub reads : Reads (schema_of v) result (state g old) (state g new)
    pub told : InSchema g (schema_of v) old new (λ db. IfOk result (λ it.
        (raws : List RawCard) × CardsTaken start it.index raws × AreCardsIn v db it.olders.items raws))
    pub refused : RefusesIn g (schema_of v) old new result (IsUnreadEntries v)

  -- why one of the tables beside `vault` isn't read, though memory is there
  abbrev pub IsUnreadOne : Version → Database → Held S → Type 0
  IsUnreadOne v db new =
      IsUnread g (merchants_text v) merchant_values db new
      ⊎ (IsUnread g READ_COUNTS.now count_values db new
      ⊎ (IsUnreadEntries v db new
      ⊎ (IsUnread g READ_RECORDS.now record_values db new
      ⊎ (IsUnread g (rights_text v) right_values db new
      ⊎ IsUnreadReplaced g db new))))

-- why 33 is told of a database in a version: a table isn't read, or in one a rowid comes twice
abbrev pub IsUnreadIn : {S : Type 0} → Ghosts S → Version → Database → Held S → Type 0
IsUnreadIn g v db new =
    AreVersionsUnread g db new
    ⊎ (IsUnreadOne g v db new ⊎ SharesRowid v db.trees)

-- so in the newest version
abbrev pub IsUnreadFile : {S : Type 0} → Ghosts S → Database → Held S → Type 0
IsUnreadFile g db new = IsUnreadIn g newest db new

-- Whether or not it failed, a call made no doubt of the disk go away, no transaction and no limit; and where
-- this is so, a crash leaves nothing that it did not leave before.
pub record IsQuietWhere (P : Type 0) (old new : State) : Type 0 where
  pub clean : doubt old.is_clean ≤ doubt new.is_clean
  pub mode : old.in_transaction ≡ false → new.in_transaction ≡ false
  pub limit : new.step_limit ≡ old.step_limit
  pub left : HasCleanDisk new → P → LeavesNoMore old new

-- so of a database in the schema of a vault
abbrev pub IsQuiet : State → State → Type 0
IsQuiet old new = IsQuietWhere (old.now.schema ≡ newest_schema) old new
