-- A database whose rows keep the rules stands for the vault of its rows, in each version.
use Rattle.std.proofs.Common.{◌≡◌, ◌∙◌, ℕ, ℤ, pos, true, false, List, [], ◌∷◌, cond, Option, None}
use Rattle.std.proofs.Common.{refl, subst, sym}
use Rattle.sqlite.specs.Effect.{Database, IsDatabase}
use Rattle.sql_tables.specs.Rows.{AreRowsById, AreRowsOf}
use Rattle.sql_tables.specs.States.{StandsIn}
use Rattle.vault_core.specs.Keys.{Bytes}
use Rattle.vault_core.specs.declared.row.Entry.{Entry}
use Rattle.vault_schema.proofs.TablesBehind.{behind_two, cards_guarded, indexes_behind_two}
use Rattle.vault_schema.proofs.TablesBehind.{schema_first, schema_second}
use Rattle.vault_schema.proofs.TablesBehind.{entries_free}
use Rattle.vault_schema.proofs.Layers.{HoldAt, stands_at}
use Rattle.vault_schema.specs.Layers.{Either, claim_or_empty, claims_at, claims_if}
use Rattle.vault_schema.specs.Stands.{lookups_of}
use Rattle.vault_schema.specs.Entries.{entry_row}
use Rattle.vault_schema.specs.Cards.{card_columns}
use Rattle.vault_schema.specs.Entries.{pointing_row}
use Rattle.vault_schema.specs.Versions.{AreEndless, AreSix, Lookups, Merchants, OldMerchants, OldRights}
use Rattle.vault_schema.specs.Versions.{Rights}
use Rattle.vault_schema.specs.Versions.{Stand, StandJoined, Tables, has_cards, layers}
use Rattle.vault_schema.specs.Versions.{natural_of, number_of, schema_of, tables_of, uncarded_claims}
use Rattle.vault_schema.specs.declared.rows.Card.{Card}
use Rattle.vault_schema.specs.declared.rows.Pointing.{Pointing}
use Rattle.vault_schema.specs.declared.version.Version.{Version}
use Rattle.vault_verdict.proofs.Left.{AreGone, gone_at, none_left}
use Rattle.vault_verdict.proofs.Merchants.{merchants_said, replaced_merchants}
use Rattle.vault_verdict.proofs.ReplacedTable.{AreSaid}
use Rattle.vault_verdict.proofs.Rights.{replaced_rights, rights_said}
use Rattle.vault_verdict.proofs.Joining.{cards_in, pointing_in}
use Rattle.vault_verdict.proofs.KeysIn.{apart_keys}
use Rattle.vault_verdict.proofs.OldEntries.{old_entries_stand, olders_apart}
use Rattle.vault_verdict.proofs.StandByTable.{cards_stand, counts_stand, joined_stand}
use Rattle.vault_verdict.proofs.StandByTable.{pointing_stand}
use Rattle.vault_verdict.proofs.StandByTable.{records_stand}
use Rattle.vault_verdict.proofs.VersionRows.{version_stands}
use Rattle.vault_verdict.specs.Apart.{AreApart}
use Rattle.vault_verdict.specs.Opened.{AreRaws}
use Rattle.sql_tables.specs.Reading.{any_left}
use Rattle.vault_verdict.specs.ReadAs.{AreCards, AreOlders}
use Rattle.vault_tables.specs.declared.entries.old.OldEntry.{OldEntry}
use Rattle.vault_rules.proofs.RowsShow.{rows_show}
use Rattle.vault_rules.specs.Rules.{keeps}
use Rattle.vault_rules.specs.VaultOf.{HasKeysApart, vault_of}
use Rattle.vault_rules.specs.declared.rows.RawVersion.{RawVersion}
use Rattle.vault_rules.specs.AllRows.{Rows}

module _ (v : Version) (db : Database) (ours : db.schema ≡ schema_of v) (sound : IsDatabase db)
    (olders : List OldEntry) (rows : Rows) (raws : AreRaws v db.trees olders rows) (up : AreApart rows)
    (keep : (r : ℕ) → keeps rows r ≡ true) (row : RawVersion) (alone : rows.versions ≡ row ∷ [])
    (id : row.id ≡ pos 1) (is : row.version ≡ number_of v) where
  keys : HasKeysApart rows
  keys = apart_keys v db ours sound olders rows raws up

  abbrev h : Lookups
  h = lookups_of (vault_of rows)

  gone : AreGone v db.trees layers
  gone = gone_at v db.trees layers (sym raws.replaced ∙ (rows_show rows keys keep).replaced)

  -- the tables that were replaced
  merchants : AreSaid replaced_merchants v db.trees (OldMerchants h.merchants) (Merchants h.merchants)
      (AreSix h)
  merchants = merchants_said rows keys keep db sound v ours raws.merchants up.merchants gone

  rights : AreSaid replaced_rights v db.trees (OldRights h.rights) (Rights h.rights) (AreEndless h)
  rights = rights_said rows keys keep db sound v ours raws.rights up.rights gone

  -- all of them, with these entries of schema 1, cards, and entries that point at them
  hold_with : (entries : Bytes × Bytes → Option Entry) (cards : ℤ → Option Card)
      → (pointing : Bytes × Bytes → Option Pointing)
      → claim_or_empty (has_cards v) (λ r. AreRowsOf entry_row r entries) (db.trees 5)
      → (has_cards v ≡ true → AreRowsById card_columns (db.trees 12) cards)
      → (has_cards v ≡ true → AreRowsOf pointing_row (db.trees 14) pointing)
      → HoldAt v (entries, tables_of h cards pointing) db.trees layers
  hold_with entries cards pointing entries_hold cards_hold pointing_hold = (
    λ so. version_stands v db ours sound _ raws.versions row alone id (natural_of v) is,
    (
      λ so. merchants.older,
      (
        λ so. counts_stand rows keys keep db sound v ours raws.counts up.counts,
        (
          λ so. entries_hold,
          (
            λ so. records_stand rows keys keep db sound v ours raws.records up.records,
            (
              λ so. rights.older,
              (
                cards_hold,
                (
                  pointing_hold,
                  (merchants.newer, (rights.newer, tt)),
                ),
              ),
            ),
          ),
        ),
      ),
    ),
  )

  -- ---- all of them

  module _ (has : has_cards v ≡ true) (are : AreCards db.trees rows) where
    abbrev t : Tables
    t = tables_of h (cards_in rows.cards) (pointing_in rows.entries)

    no_entries : claim_or_empty (has_cards v) (λ r. AreRowsOf entry_row r (λ key. None)) (db.trees 5)
    no_entries =
        let none = subst (λ b. cond b (any_left (db.trees 5)) 0 ≡ 0) has gone.1.1.1.0 in
        let empty = none_left (db.trees 5) none in
        subst (λ b. claim_or_empty b (λ r. AreRowsOf entry_row r (λ key. None)) (db.trees 5)) (sym has) empty

    joined_rows : StandJoined v db.trees h
    joined_rows =
        let there = ours ∙ schema_second v has in
        record {
          cards = cards_in rows.cards;
          pointing = pointing_in rows.entries;
          rows = subst (λ b. StandsIn (schema_of v).tables
              (claims_if b (claims_at v layers (λ key. None, t))) db.trees) (sym has)
              (stands_at v _ db.trees layers (hold_with (λ key. None) t.cards t.pointing no_entries
              (λ so. cards_stand rows keys keep db sound (behind_two v) (indexes_behind_two v)
              (entries_free v) (cards_guarded v) there are up.cards up.entries)
              (λ so. pointing_stand rows keys keep db sound (behind_two v) (indexes_behind_two v)
              (entries_free v) (cards_guarded v) there are up.cards up.entries)));
          joined =
              joined_stand rows keys keep db sound (behind_two v) (indexes_behind_two v)
              (entries_free v) (cards_guarded v) there are up.cards up.entries;
        }

  first_rows : has_cards v ≡ false → AreOlders db.trees olders rows
      → StandsIn (schema_of v).tables (uncarded_claims v h) db.trees
  first_rows none are =
      let entries = old_entries_stand db.trees olders rows are
      (olders_apart db.trees olders rows are up.entries) db (ours ∙ schema_first v none) sound refl
      (rows_show rows keys keep) in
      stands_at v _ db.trees layers (hold_with h.entries (λ id. None) (λ key. None)
      (subst (λ b. claim_or_empty b (λ r. AreRowsOf entry_row r h.entries) (db.trees 5)) (sym none) entries)
      (λ so. absurd (let clash = sym none ∙ so in cc)) (λ so. absurd (let clash = sym none ∙ so in cc)))

  -- so the database stands for the vault
  pub they_stand : Stand v db.trees h
  they_stand = record {
    rows = elim (has_cards v) as (λ b. has_cards v ≡ b
        → Either b (AreCards db.trees rows) (AreOlders db.trees olders rows)
        → Either b (StandJoined v db.trees h)
        (StandsIn (schema_of v).tables (uncarded_claims v h) db.trees)) [
          | true ↦ joined_rows
          | false ↦ first_rows
        ] refl raws.entries;
    defaults = (merchants.default, (rights.default, tt));
  }
