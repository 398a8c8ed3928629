-- What is known of rows that came one after the other.
use Rattle.std.specs.Prelude.{◌≡◌, ℕ, ℤ, true, List, length, map, Some, slice_index_or, unwrap_or}
use Rattle.std.specs.List.{filter_map, list_all, list_any}
use Rattle.vault_core.specs.Keys.{Bytes}
use Rattle.vault_rules.specs.AllRows.{Rows}
use Rattle.vault_rules.specs.HeldRows.{HoldCards}
use Rattle.vault_rules.specs.Index.{at_pair, at_text, has_pair}
use Rattle.vault_rules.specs.Kept.{place_of}
use Rattle.vault_rules.specs.Lookups.{held_by, is_known, token_usage, used_by}
use Rattle.vault_rules.specs.Packed.{packed}
use Rattle.vault_rules.specs.RisingNumbers.{IsRisingOver}
use Rattle.vault_rules.specs.Rules.{alike, are_distinct, at_moments, has_card, has_number, has_token}
use Rattle.vault_rules.specs.Rules.{is_kept, is_record, is_timed, live_key}
use Rattle.vault_rules.specs.Texts.{is_pan, is_token}
use Rattle.vault_rules.specs.declared.entries.Entries.{Entries}
use Rattle.vault_rules.specs.declared.entries.tokens.Tokens.{Tokens}
use Rattle.vault_rules.specs.declared.records.Records.{Records}
use Rattle.vault_rules.specs.declared.rows.RawVersion.{RawVersion}
use Rattle.vault_rules.specs.declared.rows.RawMerchant.{RawMerchant}
use Rattle.vault_rules.specs.declared.rows.RawCard.{RawCard}
use Rattle.vault_rules.specs.declared.rows.RawEntry.{RawEntry}
use Rattle.vault_rules.specs.declared.rows.RawRecord.{RawRecord}
use Rattle.vault_rules.specs.declared.rows.RawRight.{RawRight}
use Rattle.vault_rules.specs.declared.rules.entries.EntryRules.{EntryRules}
use Rattle.vault_rules.specs.declared.rules.live.Live.{Live}

-- whether all entries keep each rule of entries; that of their cards, where each has a merchant
pub record KeepRules (merchants : List RawMerchant) (cards : List RawCard) (it : EntryRules)
    (entries : List RawEntry) : Type 0 where
  pub tokens : it.tokens ≡ list_all (has_token merchants) entries
  pub numbers : it.numbers ≡ list_all (has_number cards) entries
  pub timed : it.timed ≡ list_all (at_moments merchants is_timed) entries
  pub kept : it.kept ≡ list_all (at_moments merchants is_kept) entries
  pub pointed : it.tokens ≡ true → it.pointed ≡ list_all (has_card cards) entries

-- where the number of each entry is a card number, whether no live key comes twice; as long as none did, the
-- keys
pub record AreLive (merchants : List RawMerchant) (cards : List RawCard) (it : Live)
    (entries : List RawEntry) : Type 0 where
  pub alone : list_all (has_number cards) entries ≡ true
      → it.alone ≡ are_distinct (filter_map (live_key merchants cards) entries)
  pub keys : list_all (has_number cards) entries ≡ true → it.alone ≡ true → (merchant number : Bytes)
      → is_pan number ≡ true → has_pair it.keys (packed number) merchant
      ≡ list_any (alike (merchant, number)) (filter_map (live_key merchants cards) entries)

-- of merchants that exist, how many entries each has; where each entry has a merchant and a token, the usage
-- of each token
pub record HoldTokens (merchants : List RawMerchant) (it : Tokens) (entries : List RawEntry) : Type 0 where
  pub held : (name : Bytes) → is_known merchants name ≡ true
      → unwrap_or (at_text it.held name) 0 ≡ held_by entries name
  pub usages : list_all (has_token merchants) entries ≡ true → (name token : Bytes)
      → is_known merchants name ≡ true → is_token token ≡ true → at_pair it.usages (packed token) name
      ≡ token_usage entries name token

-- this is so of whatever entries came, at whatever merchants, where each has one of these and a token
abbrev pub WhereTokens : Tokens → (List RawMerchant → List RawEntry → Type 0) → Type 0
WhereTokens it Is = (merchants : List RawMerchant) (entries : List RawEntry)
    → HoldTokens merchants it entries → list_all (has_token merchants) entries ≡ true → Is merchants entries

-- these entries came behind these cards
pub record HasEntries (it : Entries) (cards : List RawCard) (entries : List RawEntry) : Type 0 where
  pub many : it.many ≡ length entries
  pub held : HoldCards it.index.merchants.now it.index.cards cards
  pub rowids : IsRisingOver it.rowids (map (λ e. e.rowid) entries)
  pub rules : KeepRules it.index.merchants.now cards it.rules entries
  pub live : AreLive it.index.merchants.now cards it.live entries
  pub tokens : HoldTokens it.index.merchants.now it.tokens entries
  pub used : (id : ℤ) (place : ℕ) → place_of cards id ≡ Some place
      → slice_index_or it.used.items place 0 ≡ used_by entries id

-- this is so of whatever entries came, and of the cards that they came behind
abbrev pub WhereHeld : Entries → (List RawCard → List RawEntry → Type 0) → Type 0
WhereHeld it Is = (cards : List RawCard) (entries : List RawEntry) → HasEntries it cards entries
    → Is cards entries

-- these records came, and whether all keep their rule, where each entry has a merchant and a token
pub record HasRecords (it : Records) (records : List RawRecord) : Type 0 where
  pub many : it.many ≡ length records
  pub rowids : IsRisingOver it.rowids (map (λ r. r.rowid) records)
  pub kept : WhereHeld it.entries (λ cards entries.
      it.entries.rules.tokens ≡ true → it.kept ≡ list_all (is_record entries) records)

-- the rows of all tables came
pub record HasRows (rows : Rows) (versions_read : List RawVersion) (replaced_read : ℕ) (it : Records)
    (rights_read : List RawRight) : Type 0 where
  pub versions : versions_read ≡ rows.versions
  pub replaced : replaced_read ≡ rows.replaced
  pub merchants : it.entries.index.merchants.now ≡ rows.merchants
  pub counts : it.entries.index.counts.now ≡ rows.counts
  pub entries : HasEntries it.entries rows.cards rows.entries
  pub records : HasRecords it rows.records
  pub rights : rights_read ≡ rows.rights
