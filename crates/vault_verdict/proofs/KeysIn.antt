-- Where no rowid comes twice in the rows of a version, no key does.
use Rattle.std.proofs.Common.{◌≡◌, true, false, List, map, refl, ◌∙◌}
use Rattle.sqlite.specs.Effect.{Database, IsDatabase}
use Rattle.sql_tables.specs.Rows.{IsApart}
use Rattle.vault_schema.proofs.TablesBehind.{entries_free}
use Rattle.vault_schema.proofs.TablesBehind.{behind, behind_two, indexes_behind}
use Rattle.vault_schema.proofs.TablesBehind.{indexes_behind_two, schema_is}
use Rattle.vault_schema.proofs.TablesBehind.{schema_first, schema_second}
use Rattle.vault_schema.specs.Layers.{Either}
use Rattle.vault_schema.specs.Schemas.{v1}
use Rattle.vault_schema.specs.Versions.{has_cards, schema_of}
use Rattle.vault_schema.specs.declared.version.Version.{Version}
use Rattle.vault_verdict.proofs.Merchants.{merchants_apart}
use Rattle.vault_verdict.proofs.Rights.{rights_apart}
use Rattle.vault_verdict.proofs.CardRows.{ids_apart}
use Rattle.vault_verdict.proofs.InVersion.{counts_free}
use Rattle.vault_verdict.proofs.InVersion.{records_free}
use Rattle.vault_verdict.proofs.OldEntries.{old_keys, olders_apart}
use Rattle.vault_verdict.proofs.OldRows as old
use Rattle.vault_verdict.proofs.Table.{keys_apart}
use Rattle.vault_verdict.proofs.Tables as tables
use Rattle.vault_verdict.specs.Apart.{AreApart}
use Rattle.vault_verdict.specs.Opened.{AreRaws}
use Rattle.vault_tables.specs.MerchantTexts.{merchant_values}
use Rattle.vault_tables.specs.RightTexts.{right_values}
use Rattle.vault_tables.specs.CardTexts.{card_row}
use Rattle.vault_tables.specs.CountTexts.{count_values}
use Rattle.vault_tables.specs.EntryTexts.{entry_values}
use Rattle.vault_tables.specs.EntryTexts.{old_entry_values}
use Rattle.vault_tables.specs.RecordTexts.{record_values}
use Rattle.vault_verdict.specs.ReadAs.{AreCards, AreOlders}
use Rattle.vault_tables.specs.declared.entries.old.OldEntry.{OldEntry}
use Rattle.vault_rules.specs.VaultOf.{AreKeysApart, HasKeysApart, entry_key}
use Rattle.vault_rules.specs.AllRows.{Rows}

-- the rows of entries and cards, of which no rowid comes twice
abbrev pub AreCardsApart : Rows → Type 0
AreCardsApart rows =
    IsApart (map card_row rows.cards) × IsApart (map entry_values rows.entries)

abbrev pub AreEntriesApart : Version → List OldEntry → Rows → Type 0
AreEntriesApart v olders rows =
    Either (has_cards v) (AreCardsApart rows) (IsApart (map old_entry_values olders))

abbrev AreKeyed : Rows → Type 0
AreKeyed rows =
    AreKeysApart (λ c. c.id) rows.cards × AreKeysApart entry_key rows.entries

module _ (db : Database) (sound : IsDatabase db) (olders : List OldEntry) (rows : Rows) where
  first_apart : db.schema ≡ v1 → AreOlders db.trees olders rows
      → IsApart (map old_entry_values olders) → AreKeyed rows
  first_apart ours are up = (
    old.ids_apart db.trees olders rows are up,
    old.entries_apart db.trees olders rows are up
        (old_keys db.trees olders rows are up db ours sound refl),
  )

  later_apart : AreCards db.trees rows → AreKeysApart entry_key rows.entries
      → IsApart (map card_row rows.cards) → AreKeyed rows
  later_apart are entries up = (ids_apart db _ are.cards up, entries)

entries_keyed : (v : Version) (db : Database) → db.schema ≡ schema_of v → IsDatabase db
    → (olders : List OldEntry) (rows : Rows) → AreRaws v db.trees olders rows → AreEntriesApart v olders rows
    → AreKeyed rows
entries_keyed v db ours sound olders rows raws up =
    elim (has_cards v) as (λ b. has_cards v ≡ b → Either b (AreCards db.trees rows) (AreOlders db.trees olders
    rows) → Either b (AreCardsApart rows) (IsApart (map old_entry_values olders)) → AreKeyed rows) [
      | true ↦ λ has are apart.
          later_apart db sound olders rows are
          (keys_apart (tables.entries_in (behind_two v) (indexes_behind_two v) (entries_free v)) db
          (ours ∙ schema_second v has) sound _ are.entries apart.1) apart.0
      | false ↦ λ none are apart. first_apart db sound olders rows (ours ∙ schema_first v none) are apart
    ] refl raws.entries up

pub keys_in : (v : Version) (db : Database) → db.schema ≡ schema_of v → IsDatabase db
    → (olders : List OldEntry) (rows : Rows) → AreRaws v db.trees olders rows
    → IsApart (map merchant_values rows.merchants)
    → IsApart (map count_values rows.counts) → AreEntriesApart v olders rows
    → IsApart (map record_values rows.records) → IsApart (map right_values rows.rights)
    → HasKeysApart rows
keys_in v db ours sound olders rows raws merchants counts entries records rights =
    let keyed = entries_keyed v db ours sound olders rows raws entries in
    record {
      merchants = merchants_apart v db ours sound _ raws.merchants merchants;
      counts = keys_apart (tables.counts_in (behind v) (indexes_behind v) (counts_free v)) db
          (ours ∙ schema_is v) sound _ raws.counts counts;
      cards = keyed.0;
      entries = keyed.1;
      records = keys_apart (tables.records_in (behind v) (indexes_behind v) (records_free v)) db
          (ours ∙ schema_is v) sound _ raws.records records;
      rights = rights_apart v db ours sound _ raws.rights rights;
    }

-- so of rows of which no rowid comes twice
entries_of : (v : Version) (db : Database) (olders : List OldEntry) (rows : Rows)
    → AreRaws v db.trees olders rows → AreApart rows → AreEntriesApart v olders rows
entries_of v db olders rows raws up =
    elim (has_cards v) as (λ b. Either b (AreCards db.trees rows) (AreOlders db.trees olders rows)
    → Either b (AreCardsApart rows) (IsApart (map old_entry_values olders))) [
      | true ↦ λ are. (up.cards, up.entries)
      | false ↦ λ are. olders_apart db.trees olders rows are up.entries
    ] raws.entries

pub apart_keys : (v : Version) (db : Database) → db.schema ≡ schema_of v → IsDatabase db
    → (olders : List OldEntry) (rows : Rows) → AreRaws v db.trees olders rows → AreApart rows
    → HasKeysApart rows
apart_keys v db ours sound olders rows raws up =
    keys_in v db ours sound olders rows raws up.merchants up.counts
    (entries_of v db olders rows raws up) up.records up.rights
