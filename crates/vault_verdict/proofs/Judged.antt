-- What the verdict over rows comes to.
use Rattle.std.proofs.Common.{arith, ◌≡◌, ℕ, ℤ, pos, List, [], ◌∷◌, ◌&&◌, not, true}
use Rattle.std.proofs.Common.{false, cond, Some, None, option_map, Ok, Err, Result, IfErr, inl}
use Rattle.std.proofs.Common.{inr, map, refl, sym, ap, subst, ◌∙◌, true≢false}
use Rattle.std.specs.List.Sorted.{IsPermutation, IsSortedByKey}
use Rattle.std.specs.Ordering.{int_cmp, int_eq}
use Rattle.sqlite.specs.Effect.{Database, IsDatabase}
use Rattle.sqlite.specs.State.{State, IsUnchanged}
use Rattle.sqlite.specs.Tree.{IsAscending}
use Rattle.sql_tables.specs.Rows.{IsApart}
use Rattle.vault_verdict.proofs.Full.{entries_full, full_of, merchants_full, rights_full}
use Rattle.vault_verdict.specs.ReadAs.{AreMerchantsFull, AreRightsFull}
use Rattle.vault_verdict.proofs.InVersion.{has_version_in}
use Rattle.vault_verdict.proofs.KeysIn.{apart_keys}
use Rattle.vault_verdict.proofs.ShowByVersion.{keys_of, stands_shows, version_row}
use Rattle.vault_verdict.proofs.StandByVersion.{they_stand}
use Rattle.vault_verdict.proofs.Opening.{apart}
use Rattle.vault_verdict.proofs.Permuted.{apart_permuted}
use Rattle.vault_verdict.proofs.Climbing.{kept_shown_climb, own_rowid, shown_climb}
use Rattle.vault_verdict.proofs.RisingRowids.{climbs_apart, climbs_sorted, rows_climb}
use Rattle.vault_verdict.specs.Apart.{AreApart, AreByRowid, AreEntriesApart, AreTablesApart}
use Rattle.vault_verdict.specs.Made.{as_card, as_entry}
use Rattle.vault_verdict.specs.Opened.{AreRaws, AreVersions, IsBrokenIn, IsFit, IsLeastBroken, IsNoRefusal}
use Rattle.vault_verdict.specs.Opened.{AreOldersIn, IsOtherVersion, IsSoundIn, IsVersionIn, StandsSoundIn}
use Rattle.vault_tables.specs.MerchantTexts.{merchant_values}
use Rattle.vault_tables.specs.RightTexts.{right_values}
use Rattle.vault_tables.specs.CardTexts.{card_row, card_values}
use Rattle.vault_tables.specs.CountTexts.{count_values}
use Rattle.vault_tables.specs.EntryTexts.{entry_values}
use Rattle.vault_tables.specs.EntryTexts.{old_entry_values}
use Rattle.vault_tables.specs.RecordTexts.{record_values}
use Rattle.vault_verdict.specs.ReadAs.{AreCards, AreOlders}
use Rattle.vault_verdict.specs.ReadAs.{AreEntries, AreFull, IsFullIn, merchants_in, replaced_in}
use Rattle.vault_verdict.specs.ReadAs.{rights_in}
use Rattle.vault_verdict.specs.Judging.{AreOnward, first_rows, named_in}
use Rattle.vault_verdict.specs.Reading.{AreCardsIn, AreEntriesIn, AreFirst}
use Rattle.vault_verdict.specs.Reading.{AreOldCards, ArePointingFull, IsOurs}
use Rattle.sql_tables.specs.Reading.{AreLonger, AreTable, IsAny}
use Rattle.vault_verdict.specs.declared.first_rows.First.{First}
use Rattle.vault_tables.specs.declared.entries.old.OldEntry.{OldEntry}
use Rattle.vault_schema.specs.Versions.{has_cards, number_of, schema_of}
use Rattle.vault_schema.specs.Layers.{Either}
use Rattle.vault_schema.specs.declared.version.Version.{Version}
use Rattle.vault_verdict.specs.Sizes.{counts_of}
use Rattle.vault_verdict.specs.Versions.{is_other, other_than}
use Rattle.vault_verdict.specs.declared.fault.OpenFault.{OpenFault}
use Rattle.vault_verdict.specs.declared.fault.OpenFault.TheVariants.{WrongSchema, Damaged}
use Rattle.vault_schema.specs.Versioned.{HasVersion}
use Rattle.vault_schema.specs.Schema.{newest_schema}
use Rattle.vault_schema.specs.Stands.{lookups_of, newest}
use Rattle.vault_rules.proofs.AllKept.{all_kept}
use Rattle.vault_rules.proofs.Found.{many_is}
use Rattle.vault_rules.proofs.Held.{entries_many, records_many}
use Rattle.vault_rules.proofs.Numbers.{int_is, int_same}
use Rattle.vault_rules.proofs.RowsShow.{rows_show}
use Rattle.vault_rules.proofs.VaultSound.{vault_is_sound}
use Rattle.vault_rules.specs.Rules.{keeps}
use Rattle.vault_rules.specs.VaultOf.{vault_of}
use Rattle.vault_rules.specs.declared.rows.RawCard.{RawCard}
use Rattle.vault_rules.specs.declared.rows.RawEntry.{RawEntry}
use Rattle.vault_rules.specs.declared.rows.RawVersion.{RawVersion}
use Rattle.vault_rules.specs.AllRows.{Rows}
use Rattle.std.specs.Prelude.{◌<ℤ◌}

-- the one row of `vault` says this version
pub version_is : (n : ℤ) (v : RawVersion) → v.id ≡ pos 1 → other_than n (v ∷ []) ≡ None → v.version ≡ n
version_is n v id none = grind (arith, int_is v.version n, int_same v.id (pos 1))

pub sound_of : (v : Version) (db : Database) → db.schema ≡ schema_of v → IsDatabase db
    → (olders : List OldEntry) (rows : Rows) → AreRaws v db.trees olders rows
    → ((r : ℕ) → keeps rows r ≡ true) → AreApart rows
    → other_than (number_of v) rows.versions ≡ None → IsSoundIn v db (counts_of rows)
sound_of v db ours sound olders rows raws keep apart says =
    let keys = apart_keys v db ours sound olders rows raws apart in
    let shows = rows_show rows keys keep in
    let version = version_is (number_of v) shows.version shows.id
    (subst (λ vs. other_than (number_of v) vs ≡ None) shows.versions says) in
    record {
      is = sound;
      it = record {
        schema = ours;
        vault = vault_of rows;
        sound = vault_is_sound rows keys keep;
        stand =
            they_stand v db ours sound olders rows raws apart keep shows.version shows.versions shows.id
            version;
      };
      sizes_are = λ i. record {
        merchants = sym (many_is rows keys) i;
        entries = sym (entries_many rows keys) i;
        records = sym (records_many rows keys keep) i;
      };
    }

-- ---- what was read

entries_are : (v : Version) (db : Database) (olders : List OldEntry) (rows : Rows) → AreFull v db.trees
    → AreCardsIn v db olders rows.cards → AreEntriesIn v db olders rows.entries
    → AreEntries v db.trees olders rows
entries_are v db olders rows full cards entries =
    elim (has_cards v) as (λ b. Either b (AreLonger 7 (db.trees 14)) (AreLonger 7 (db.trees 5))
    → Either b (AreTable IsAny (λ t. t 12) card_row (λ c. c.id) db rows.cards)
    (AreOldCards db olders rows.cards)
    → Either b (AreTable ArePointingFull (λ t. t 14) entry_values (λ e. e.rowid) db rows.entries)
    (map as_entry olders ≡ map entry_values rows.entries)
    → Either b (AreCards db.trees rows) (AreOlders db.trees olders rows)) [
      | true ↦ λ full cards entries. record { cards = cards.all tt; entries = entries.all full }
      | false ↦ λ full cards entries.
          record { stand = cards.read.all full; entries = entries; cards = cards.made }
    ] (entries_full v db.trees full) cards entries

-- these are the rows of all tables of a version beside `vault`; of the tables that were replaced, how many
-- still have rows
pub record AreAll (v : Version) (db : Database) (olders : List OldEntry) (rows : Rows) : Type 0 where
  pub merchants : AreTable (AreMerchantsFull v) (merchants_in v) merchant_values (λ m. m.rowid) db
      rows.merchants
  pub counts : AreTable IsAny (λ t. t 3) count_values (λ c. c.rowid) db rows.counts
  pub cards : AreCardsIn v db olders rows.cards
  pub entries : AreEntriesIn v db olders rows.entries
  pub records : AreTable IsAny (λ t. t 8) record_values (λ r. r.rowid) db rows.records
  pub rights : AreTable (AreRightsFull v) (rights_in v) right_values (λ r. r.rowid) db rows.rights
  pub replaced : rows.replaced ≡ replaced_in v db.trees

-- rows that were read of a database are all that it has
pub record AreRead (v : Version) (db : Database) (olders : List OldEntry) (rows : Rows) : Type 0 where
  pub sound : IsDatabase db
  pub raws : AreRaws v db.trees olders rows
  pub all : AreAll v db olders rows

pub are_read : (v : Version) (old mid : State) (versions : List RawVersion) (olders : List OldEntry)
    (rows : Rows) → rows.versions ≡ versions
    → (HasVersion old.now.schema → IsUnchanged old mid) → (HasVersion old.now.schema → IsDatabase old.now)
    → (HasVersion old.now.schema → AreVersions old.now.trees versions)
    → (mid.now.schema ≡ schema_of v → AreAll v mid.now olders rows) → IsFullIn v old.now
    → AreRead v old.now olders rows
are_read v old mid versions olders rows is same sound are told ours =
    let has = has_version_in v _ ours.schema in
    let now : mid.now ≡ old.now = (same has).0.now_is in
    let all = subst (λ d. AreAll v d olders rows) now
    (told (ap (λ (d : Database). d.schema) now ∙ ours.schema)) in
    record {
      sound = sound has;
      raws = record {
        versions = subst (AreVersions old.now.trees) (sym is) (are has);
        merchants = all.merchants.all (merchants_full v old.now ours.full);
        counts = all.counts.all tt;
        entries = entries_are v old.now olders rows ours.full all.cards all.entries;
        records = all.records.all tt;
        rights = all.rights.all (rights_full v old.now ours.full);
        replaced = all.replaced;
      };
      all = all;
    }

-- the first rows, the cards and those behind them are all
pub all_of : (v : Version) (db : Database) (first : First) (olders : List OldEntry)
    (versions : List RawVersion) (rows : Rows) → AreFirst v db first → AreCardsIn v db olders rows.cards
    → AreOnward v (first_rows (named_in versions first) olders rows.cards) db rows
    → AreAll v db olders rows
all_of v db first olders versions rows are cards onward = record {
  merchants = subst (AreTable (AreMerchantsFull v) (merchants_in v) merchant_values (λ m. m.rowid) db)
      (sym onward.merchants) are.merchants;
  counts = subst (AreTable IsAny (λ t. t 3) count_values (λ c. c.rowid) db) (sym onward.counts) are.counts;
  cards = cards;
  entries = onward.entries;
  records = onward.records;
  rights = onward.rights;
  replaced = onward.replaced;
}

-- those of schema 1 as they stand
pub olders_in : (v : Version) (db : Database) (olders : List OldEntry) (rows : Rows)
    → AreRead v db olders rows
    → AreOldersIn v db.trees olders
olders_in v db olders rows read =
    elim (has_cards v) as (λ b. Either b (AreCards db.trees rows) (AreOlders db.trees olders rows)
    → Either b (Unit {0}) (IsPermutation (db.trees 5) (map old_entry_values olders))) [
      | true ↦ λ are. tt
      | false ↦ λ are. are.stand
    ] read.raws.entries

-- ---- rows of tables in which no rowid comes twice

-- the entries of schema 1 climb by their rowids, and so does what is made of them
module _ (db : Database) (olders : List OldEntry) (rows : Rows) (read : AreOldCards db olders rows.cards)
    (are : AreOlders db.trees olders rows) (apart : IsApart (db.trees 5)) where
  olders_climb : IsAscending (λ a b. a.rowid <ℤ b.rowid) olders
  olders_climb =
      rows_climb (λ (o : OldEntry). o.rowid) old_entry_values (λ o. refl) olders read.read.ordered
      (apart_permuted _ _ are.stand apart)

  entries_climb : IsAscending (λ a b. a.rowid <ℤ b.rowid) rows.entries
  entries_climb = shown_climb as_entry entry_values olders rows.entries are.entries olders_climb

  cards_climb : IsAscending (λ a b. a.id <ℤ b.id) rows.cards
  cards_climb =
      kept_shown_climb as_card (λ (o : OldEntry). o.rowid) own_rowid card_values olders rows.cards
      are.cards olders_climb

-- what was read of cards and entries is in the order of the rowids
record AreInOrder (rows : Rows) : Type 0 where
  cards : IsSortedByKey (λ c. c.id) int_cmp rows.cards
  entries : IsSortedByKey (λ e. e.rowid) int_cmp rows.entries

in_order : (v : Version) (db : Database) (olders : List OldEntry) (rows : Rows) → AreRead v db olders rows
    → AreEntriesApart v db.trees → AreInOrder rows
in_order v db olders rows read apart =
    elim (has_cards v) as (λ b. Either b (AreTable IsAny (λ t. t 12) card_row (λ c. c.id) db rows.cards)
    (AreOldCards db olders rows.cards)
    → Either b (AreTable ArePointingFull (λ t. t 14) entry_values (λ e. e.rowid) db rows.entries)
    (map as_entry olders ≡ map entry_values rows.entries)
    → Either b (AreCards db.trees rows) (AreOlders db.trees olders rows)
    → Either b (IsApart (db.trees 12) × IsApart (db.trees 14)) (IsApart (db.trees 5)) → AreInOrder rows) [
      | true ↦ λ cards entries are up. record { cards = cards.ordered; entries = entries.ordered }
      | false ↦ λ cards entries are up. record {
        cards = climbs_sorted (λ (c : RawCard). c.id) rows.cards
            (cards_climb db olders rows cards are up);
        entries = climbs_sorted (λ (e : RawEntry). e.rowid) rows.entries
            (entries_climb db olders rows cards are up);
      }
    ] read.all.cards read.all.entries read.raws.entries apart

-- and no rowid comes twice in it
record AreKept (rows : Rows) : Type 0 where
  cards : IsApart (map card_row rows.cards)
  entries : IsApart (map entry_values rows.entries)

kept : (v : Version) (db : Database) (olders : List OldEntry) (rows : Rows) → AreRead v db olders rows
    → AreEntriesApart v db.trees → AreKept rows
kept v db olders rows read apart =
    elim (has_cards v) as (λ b. Either b (AreTable IsAny (λ t. t 12) card_row (λ c. c.id) db rows.cards)
    (AreOldCards db olders rows.cards)
    → Either b (AreCards db.trees rows) (AreOlders db.trees olders rows)
    → Either b (IsApart (db.trees 12) × IsApart (db.trees 14)) (IsApart (db.trees 5)) → AreKept rows) [
      | true ↦ λ cards are up. record {
        cards = apart_permuted _ _ are.cards up.0;
        entries = apart_permuted _ _ are.entries up.1;
      }
      | false ↦ λ cards are up. record {
        cards = climbs_apart (λ (c : RawCard). c.id) card_row (λ c. refl) rows.cards
            (cards_climb db olders rows cards are up);
        entries = climbs_apart (λ (e : RawEntry). e.rowid) entry_values (λ e. refl) rows.entries
            (entries_climb db olders rows cards are up);
      }
    ] read.all.cards read.raws.entries apart

module _ (v : Version) (db : Database) (olders : List OldEntry) (rows : Rows)
    (read : AreRead v db olders rows)
    (apart : AreTablesApart v db.trees) where
  -- all rows are in the order of the rowids
  pub by_rowid : AreByRowid rows
  by_rowid =
      let it = in_order v db olders rows read apart.entries in
      record {
        merchants = read.all.merchants.ordered;
        counts = read.all.counts.ordered;
        cards = it.cards;
        entries = it.entries;
        records = read.all.records.ordered;
        rights = read.all.rights.ordered;
      }

  -- and no rowid comes twice in them
  pub apart_of : AreApart rows
  apart_of =
      let it = kept v db olders rows read apart.entries in
      record {
        merchants = apart_permuted _ _ read.raws.merchants apart.merchants;
        counts = apart_permuted _ _ read.raws.counts apart.counts;
        cards = it.cards;
        entries = it.entries;
        records = apart_permuted _ _ read.raws.records apart.records;
        rights = apart_permuted _ _ read.raws.rights apart.rights;
      }

-- ---- a database that stands for a sound vault

never_itself : (v : Version)
    → (int_eq (pos 1) (pos 1) && not (int_eq (number_of v) (number_of v))) ≡ false
never_itself v = rw (int_same (number_of v) (number_of v) refl) refl

module _ (v : Version) (db : Database) (it : StandsSoundIn v db) where
  -- its rows break no rule
  pub never_broken : (rule : ℕ) → IsBrokenIn v db rule → ⊥
  never_broken rule least =
      let keys = keys_of v db it.schema least.is it.vault it.stand least.olders least.rows least.are in
      true≢false (sym (all_kept least.rows it.vault
      (stands_shows v db it.schema least.is it.vault it.stand least.olders least.rows least.are) it.sound keys
      rule) ∙ least.least.broken)

  -- nor do they say another version
  pub never_other : (n : ℤ) → IsVersionIn v db n → ⊥
  never_other n other =
      let row = version_row v db.trees (lookups_of it.vault) it.stand other.versions other.are in
      let same : is_other (number_of v) row.0 ≡ false =
      (λ i. int_eq (row.2 i) (pos 1) && not (int_eq (row.3 i) (number_of v))) ∙ never_itself v in
      let none : other_than (number_of v) other.versions ≡ None =
      ap (other_than (number_of v)) row.1
      ∙ ap (λ b. option_map (λ (v : RawVersion). v.version) (cond b (Some row.0) None)) same in
      let clash = sym none ∙ other.says in cc

  pub full_in : IsFullIn v db
  full_in = record { schema = it.schema; full = full_of v db.trees (lookups_of it.vault) it.stand }

-- a database that stands for a sound vault in a version is refused there by no version and no rule
pub no_refusal_in : {A : Type 0} (v : Version) (db : Database) (r : Result A OpenFault)
    → IfErr r (λ e. (rule : ℕ) → e ≡ Damaged rule → IsFullIn v db → IsBrokenIn v db rule)
    → IfErr r (λ e. (n : ℤ) → e ≡ WrongSchema n → db.schema ≡ schema_of v → IsVersionIn v db n)
    → IfErr r (λ e. StandsSoundIn v db → IsNoRefusal e)
no_refusal_in v db (Ok a) damaged versioned = tt
no_refusal_in v db (Err e) damaged versioned = λ it. (
  λ n same. never_other v db it n (versioned n same it.schema),
  λ rule same. never_broken v db it rule (damaged rule same (full_in v db it)),
)

-- so one that is fit is refused by neither in the newest
pub no_refusal : {A : Type 0} (db : Database) → db.schema ≡ newest_schema → (r : Result A OpenFault)
    → IfErr r (λ e. (rule : ℕ) → e ≡ Damaged rule → IsOurs db → IsLeastBroken db rule)
    → IfErr r (λ e. (n : ℤ) → e ≡ WrongSchema n → db.schema ≡ newest_schema → IsOtherVersion db n)
    → IfErr r (λ e. IsFit db → IsNoRefusal e)
no_refusal db vault (Ok a) damaged versioned = tt
no_refusal db vault (Err e) damaged versioned = λ fit. elim fit as (λ _. IsNoRefusal e) [
  | inl it ↦ (
    λ n same.
        let other = versioned n same vault in
        never_other newest db it n (record { versions = other.versions; are = other.are; says = other.says }),
    λ rule same. never_broken newest db it rule (damaged rule same (full_in newest db it)),
  )
  | inr blank ↦ absurd (apart (sym blank ∙ vault))
]
