-- The rows of a database that stands for a vault show that vault, in each version.
use Rattle.std.proofs.Common.{◌≡◌, pos, true, false, List, [], ◌∷◌, map, option_map}
use Rattle.std.proofs.Common.{◌∙◌, ap, refl}
use Rattle.sqlite.specs.Effect.{Database, IsDatabase}
use Rattle.sqlite.specs.Tree.{Trees}
use Rattle.sqlite_rules.specs.Lists.{Has}
use Rattle.sql_tables.specs.Rows.{AreRowsById, AreRowsOf, IsApart}
use Rattle.sql_tables.specs.States.{StandsIn}
use Rattle.vault_core.specs.Vault.{Vault}
use Rattle.vault_schema.proofs.TablesBehind.{schema_first}
use Rattle.vault_schema.proofs.ByTable.{first_entries, held, joined_cards, joined_pointing}
use Rattle.vault_schema.specs.Stands.{lookups_of}
use Rattle.vault_schema.specs.VersionRows.{IsVersion}
use Rattle.vault_schema.specs.Counts.{count_row}
use Rattle.vault_schema.specs.Records.{record_row}
use Rattle.vault_schema.specs.Joined.{joined}
use Rattle.vault_schema.specs.Cards.{card_columns}
use Rattle.vault_schema.specs.Entries.{pointing_row}
use Rattle.vault_schema.specs.Layers.{Either}
use Rattle.vault_schema.specs.Versions.{Lookups, Merchants}
use Rattle.vault_schema.specs.Versions.{Rights, Stand, StandJoined, has_cards}
use Rattle.vault_schema.specs.Versions.{natural_of, number_of, schema_of, uncarded_claims}
use Rattle.vault_schema.specs.declared.version.Version.{Version}
use Rattle.vault_verdict.proofs.Left.{none_at}
use Rattle.vault_verdict.proofs.Merchants.{merchants_claimed}
use Rattle.vault_verdict.proofs.Rights.{rights_claimed}
use Rattle.vault_schema.specs.Versions.{layers}
use Rattle.vault_verdict.proofs.ShowByTable.{ArePairs, AreShared, AreThere, shows_of, version_of}
use Rattle.vault_verdict.proofs.KeysIn.{AreCardsApart, AreEntriesApart, keys_in}
use Rattle.vault_verdict.proofs.OldEntries.{old_keys, old_pairs, old_there}
use Rattle.vault_verdict.proofs.OldRows as old
use Rattle.vault_verdict.proofs.Permuted.{apart_permuted}
use Rattle.vault_verdict.proofs.ShownCards as cards
use Rattle.vault_verdict.specs.Opened.{AreRaws, AreVersions}
use Rattle.vault_tables.specs.EntryTexts.{old_entry_values}
use Rattle.vault_verdict.specs.ReadAs.{AreCards, AreOlders, merchants_in, replaced_in, rights_in}
use Rattle.vault_tables.specs.declared.entries.old.OldEntry.{OldEntry}
use Rattle.vault_rules.specs.Showing.{Shows, ShowsCard}
use Rattle.vault_rules.specs.VaultOf.{HasKeysApart, entry_key}
use Rattle.vault_rules.specs.declared.rows.RawCard.{RawCard}
use Rattle.vault_rules.specs.declared.rows.RawVersion.{RawVersion}
use Rattle.vault_rules.specs.AllRows.{Rows}

-- ---- what a version claims, read as the newest one

pub record AreClaimed (v : Version) (db : Trees) (h : Lookups) : Type 0 where
  pub version : IsVersion (natural_of v) (db 0)
  pub merchants : Merchants h.merchants (merchants_in v db)
  pub counts : AreRowsOf count_row (db 3) h.counts
  pub records : AreRowsOf record_row (db 8) h.records
  pub rights : Rights h.rights (rights_in v db)
  pub replaced : replaced_in v db ≡ 0

pub claimed : (v : Version) (db : Trees) (h : Lookups) → Stand v db h → AreClaimed v db h
claimed v db h s =
    let it = held v db h s.rows in
    record {
      version = it.hold.0 refl;
      merchants = merchants_claimed v db h it s.defaults;
      counts = it.hold.1.1.0 refl;
      records = it.hold.1.1.1.1.0 refl;
      rights = rights_claimed v db h it s.defaults;
      replaced = none_at v db _ layers refl it.hold;
    }

-- the one row of `vault` says the version
pub version_row : (v : Version) (db : Trees) (h : Lookups) → Stand v db h → (versions : List RawVersion)
    → AreVersions db versions
    → (row : RawVersion) × (versions ≡ row ∷ []) × (row.id ≡ pos 1) × (row.version ≡ number_of v)
version_row v db h s versions are =
    version_of (natural_of v) db (claimed v db h s).version versions are

-- ---- its entries

module _ (db : Database) (V : Vault) (olders : List OldEntry) (rows : Rows) where
  record AreShown : Type 0 where
    pairs : ArePairs V rows
    there : AreThere V rows
    cards : (c : RawCard) → Has rows.cards c → ShowsCard rows.entries c

  joined_shown : {v : Version} (j : StandJoined v db.trees (lookups_of V)) → AreCards db.trees rows
      → AreRowsById card_columns (db.trees 12) j.cards → AreRowsOf pointing_row (db.trees 14) j.pointing
      → HasKeysApart rows → AreShown
  joined_shown j are cards_are pointing_are apart = record {
    pairs = λ e h.
        let it = cards.pointing_of db.trees j.joined cards_are pointing_are rows are apart e h in (
          joined j.cards it.0,
          j.joined.same (entry_key e) ∙ ap (option_map (joined j.cards)) it.1,
          cards.entry_shown db.trees j.joined cards_are pointing_are rows are apart e h,
        );
    there = cards.entry_pointing db.trees j.joined cards_are pointing_are rows are apart;
    cards = cards.cards_shown db.trees j.joined cards_are pointing_are rows are apart;
  }

entries_up : (v : Version) (db : Database) (V : Vault) (olders : List OldEntry) (rows : Rows)
    → Stand v db.trees (lookups_of V) → AreRaws v db.trees olders rows → AreEntriesApart v olders rows
entries_up v db V olders rows s raws =
    elim (has_cards v) as (λ b. has_cards v ≡ b → Either b (StandJoined v db.trees (lookups_of V))
    (StandsIn (schema_of v).tables (uncarded_claims v (lookups_of V)) db.trees)
    → Either b (AreCards db.trees rows) (AreOlders db.trees olders rows)
    → Either b (AreCardsApart rows) (IsApart (map old_entry_values olders))) [
      | true ↦ λ has j are. (
        apart_permuted _ _ are.cards (joined_cards v db.trees (lookups_of V) has j).apart,
        apart_permuted _ _ are.entries (joined_pointing v db.trees (lookups_of V) has j).apart,
      )
      | false ↦ λ none stands are.
          apart_permuted _ _ are.stand (first_entries v db.trees (lookups_of V) none stands).apart
    ] refl s.rows raws.entries

entries_shown : (v : Version) (db : Database) → db.schema ≡ schema_of v → IsDatabase db → (V : Vault)
    → (olders : List OldEntry) (rows : Rows) → Stand v db.trees (lookups_of V)
    → AreRaws v db.trees olders rows → HasKeysApart rows → AreShown db V olders rows
entries_shown v db ours sound V olders rows s raws apart =
    elim (has_cards v) as (λ b. has_cards v ≡ b → Either b (StandJoined v db.trees (lookups_of V))
    (StandsIn (schema_of v).tables (uncarded_claims v (lookups_of V)) db.trees)
    → Either b (AreCards db.trees rows) (AreOlders db.trees olders rows)
    → AreShown db V olders rows) [
      | true ↦ λ has j are.
          joined_shown db V olders rows j are (joined_cards v db.trees (lookups_of V) has j)
          (joined_pointing v db.trees (lookups_of V) has j) apart
      | false ↦ λ none stands are.
          let claimed_entries = first_entries v db.trees (lookups_of V) none stands in
          let up = apart_permuted _ _ are.stand claimed_entries.apart in
          record {
            pairs = old_pairs db.trees olders rows are up V claimed_entries;
            there = old_there db.trees olders rows are up V claimed_entries;
            cards = old.cards_shown db.trees olders rows are up
                (old_keys db.trees olders rows are up db (ours ∙ schema_first v none) sound refl);
          }
    ] refl s.rows raws.entries

-- ---- the whole

module _ (v : Version) (db : Database) (ours : db.schema ≡ schema_of v) (sound : IsDatabase db) (V : Vault)
    (s : Stand v db.trees (lookups_of V)) (olders : List OldEntry) (rows : Rows)
    (raws : AreRaws v db.trees olders rows) where
  claims : AreClaimed v db.trees (lookups_of V)
  claims = claimed v db.trees (lookups_of V) s

  -- no key comes twice in them
  pub keys_of : HasKeysApart rows
  keys_of = keys_in v db ours sound olders rows raws (apart_permuted _ _ raws.merchants
      claims.merchants.apart)
      (apart_permuted _ _ raws.counts claims.counts.apart) (entries_up v db V olders rows s raws)
      (apart_permuted _ _ raws.records claims.records.apart)
      (apart_permuted _ _ raws.rights claims.rights.apart)

  pub stands_shows : Shows rows V
  stands_shows =
      let version = version_of (natural_of v) db.trees claims.version rows.versions raws.versions in
      let shared : AreShared v db.trees V rows = record {
        merchants = claims.merchants;
        counts = claims.counts;
        records = claims.records;
        rights = claims.rights;
        merchants_are = raws.merchants;
        counts_are = raws.counts;
        records_are = raws.records;
        rights_are = raws.rights;
      } in
      let shown = entries_shown v db ours sound V olders rows s raws keys_of in
      shows_of v db.trees V rows shared keys_of shown.pairs shown.there version.0 version.1 version.2
      (raws.replaced ∙ claims.replaced) shown.cards
