-- The rows of what the vault has.
use Rattle.std.proofs.Common.{◌≡◌, ℕ, ℤ, Bool, true, ◌&&◌, List, find, Option, Some, option_map, sym}
use Rattle.std.proofs.Common.{ap, ◌∙◌}
use Rattle.std.specs.Prelude.{string_bytes, bytes_eq}
use Rattle.std.specs.Cmp.{Equal-is}
use Rattle.std.specs.Option.{option_map_or}
use Rattle.std.specs.Ordering.{eq_by_cmp}
use Rattle.std.proofs.lemmas.Bool.{and_parts}
use Rattle.sqlite_rules.specs.Lists.{Has}
use Rattle.sqlite_rules.proofs.ListLemmas.{has_found}
use Rattle.vault_core.specs.Keys.{Bytes, record_cmp, right_cmp}
use Rattle.vault_core.specs.Vault.{Merchant, merchant_at, entry_at, record_at, right_at}
use Rattle.vault_core.specs.declared.right.Right.{Right}
use Rattle.vault_core.specs.declared.row.Entry.{Entry}
use Rattle.vault_core.specs.declared.row.GrantRow.{GrantRow}
use Rattle.vault_core.specs.declared.row.Record.{Record}
use Rattle.vault_core.proofs.Maps.{record_exact, right_exact}
use Rattle.vault_rules.specs.Lookups.{merchant_of, entry_of, is_known}
use Rattle.vault_rules.specs.Rules.{at_moments}
use Rattle.vault_rules.specs.VaultOf.{vault_of, merchant_value, entry_value, record_key, record_value}
use Rattle.vault_rules.specs.VaultOf.{right_key, grant_value}
use Rattle.vault_rules.specs.declared.rows.RawMerchant.{RawMerchant}
use Rattle.vault_rules.specs.declared.rows.RawEntry.{RawEntry}
use Rattle.vault_rules.specs.declared.rows.RawRecord.{RawRecord}
use Rattle.vault_rules.specs.declared.rows.RawRight.{RawRight}
use Rattle.vault_rules.specs.AllRows.{Rows}
use Rattle.vault_rules.proofs.Found.{bytes_are, merchant_is, entry_is, record_is, right_is}
use Rattle.vault_rules.proofs.Options.{there_is, mapped_is}

-- the row of a merchant
pub record MerchantRow (merchants : List RawMerchant) (name : Bytes) : Type 0 where
  pub m : RawMerchant
  pub first : merchant_of merchants name ≡ Some m
  pub there : Has merchants m
  pub name_is : string_bytes m.name ≡ name

-- the row of an entry
pub record EntryRow (entries : List RawEntry) (merchant token : Bytes) : Type 0 where
  pub e : RawEntry
  pub first : entry_of entries merchant token ≡ Some e
  pub there : Has entries e
  pub merchant_is : string_bytes e.merchant ≡ merchant
  pub token_is : string_bytes e.token ≡ token

abbrev pub merchant_found : (merchants : List RawMerchant) (name : Bytes) (m : RawMerchant)
    → merchant_of merchants name ≡ Some m → MerchantRow merchants name
merchant_found merchants name m h =
    let found = has_found (λ n. bytes_eq (string_bytes n.name) name) merchants m h in
    record { m = m; first = h; there = found.0; name_is = bytes_are (string_bytes m.name) name found.1 }

pub merchant_known : (merchants : List RawMerchant) (name : Bytes) → is_known merchants name ≡ true
    → MerchantRow merchants name
merchant_known merchants name h =
    let found = there_is (merchant_of merchants name) h in
    merchant_found merchants name found.0 found.1

abbrev pub entry_found : (entries : List RawEntry) (merchant token : Bytes) (e : RawEntry)
    → entry_of entries merchant token ≡ Some e → EntryRow entries merchant token
entry_found entries merchant token e h =
    let found =
    has_found (λ n. bytes_eq (string_bytes n.merchant) merchant && bytes_eq (string_bytes n.token) token)
    entries e h in
    let keys =
    and_parts (bytes_eq (string_bytes e.merchant) merchant) (bytes_eq (string_bytes e.token) token)
    found.1 in
    record {
      e = e;
      first = h;
      there = found.0;
      merchant_is = bytes_are (string_bytes e.merchant) merchant keys.0;
      token_is = bytes_are (string_bytes e.token) token keys.1;
    }

-- a test of an entry at its merchant's moment
pub at_moment : (merchants : List RawMerchant) (test : ℤ → RawEntry → Bool) (e : RawEntry) (m : RawMerchant)
    → merchant_of merchants (string_bytes e.merchant) ≡ Some m → at_moments merchants test e ≡ test m.moment e
at_moment merchants test e m first =
    ap
    (λ (o : Option RawMerchant). option_map_or (λ moment. test moment e) (option_map (λ n. n.moment) o) true)
    first

module _ (rows : Rows) where
  -- the value of a merchant's row
  pub merchant_there : (name : Bytes) (row : MerchantRow rows.merchants name)
      → merchant_at (vault_of rows) name ≡ Some (merchant_value rows.counts row.m)
  merchant_there name row =
      merchant_is rows name ∙ ap (option_map (merchant_value rows.counts)) row.first

  pub entry_there : (merchant token : Bytes) (row : EntryRow rows.entries merchant token)
      → entry_at (vault_of rows) merchant token ≡ Some (entry_value rows.cards row.e)
  entry_there merchant token row =
      entry_is rows merchant token ∙ ap (option_map (entry_value rows.cards)) row.first

  -- the row of a value
  pub merchant_row : (name : Bytes) (merchant : Merchant) → merchant_at (vault_of rows) name ≡ Some merchant
      → (row : MerchantRow rows.merchants name) × (merchant_value rows.counts row.m ≡ merchant)
  merchant_row name merchant h =
      let it =
      mapped_is (merchant_value rows.counts) (merchant_of rows.merchants name) merchant
      (sym (merchant_is rows name) ∙ h) in
      (merchant_found rows.merchants name it.0 it.1, it.2)

  pub entry_row : (merchant token : Bytes) (entry : Entry)
      → entry_at (vault_of rows) merchant token ≡ Some entry
      → (row : EntryRow rows.entries merchant token) × (entry_value rows.cards row.e ≡ entry)
  entry_row merchant token entry h =
      let it =
      mapped_is (entry_value rows.cards) (entry_of rows.entries merchant token) entry
      (sym (entry_is rows merchant token) ∙ h) in
      (entry_found rows.entries merchant token it.0 it.1, it.2)

  pub record_row : (caller : Bytes) (request : ℕ) (shown : Record)
      → record_at (vault_of rows) caller request ≡ Some shown
      → (r : RawRecord) × Has rows.records r × (record_key r ≡ (caller, request))
      × (record_value r ≡ shown)
  record_row caller request shown h =
      let test = λ (r : RawRecord). eq_by_cmp record_cmp (caller, request) (record_key r) in
      let it =
      mapped_is record_value (find test rows.records) shown
      (sym (record_is rows caller request) ∙ h) in
      let found = has_found test rows.records it.0 it.1 in
      let same =
      record_exact (caller, request) (record_key it.0)
      ((Equal-is (record_cmp (caller, request) (record_key it.0))).0 found.1) in
      (it.0, found.0, sym same, it.2)

  pub right_row : (caller m : Bytes) (right : Right) (g : GrantRow)
      → right_at (vault_of rows) caller m right ≡ Some g
      → (r : RawRight) × Has rows.rights r × (right_key r ≡ (caller, (m, right)))
      × (grant_value r ≡ g)
  right_row caller m right g h =
      let q : Bytes × (Bytes × Right) = (caller, (m, right)) in
      let test = λ (r : RawRight). eq_by_cmp right_cmp q (right_key r) in
      let it =
      mapped_is grant_value (find test rows.rights) g (sym (right_is rows caller m right) ∙ h) in
      let found = has_found test rows.rights it.0 it.1 in
      let same = right_exact q (right_key it.0) ((Equal-is (right_cmp q (right_key it.0))).0 found.1) in
      (it.0, found.0, sym same, it.2)
