-- Each row is in the vault of rows.
use Rattle.std.proofs.Common.{◌≡◌, ℕ, ℤ, pos, true, List, [], ◌∷◌, length, Some, option_map, inl, inr}
use Rattle.std.proofs.Common.{refl, sym, ap, ◌∙◌}
use Rattle.std.specs.Prelude.{string_bytes}
use Rattle.std.specs.Cmp.{tied_itself}
use Rattle.std.specs.FinMap as finite
use Rattle.std.specs.FinMap.{IsAntisymmetric}
use Rattle.std.specs.Cmp.{IsTotalOrder, Equal-is}
use Rattle.std.specs.Ordering.{eq_by_cmp, int_eq, is_eq}
use Rattle.std.specs.declared.cmp.Ordering.{Ordering}
use Rattle.sqlite_rules.specs.Lists.{Has}
use Rattle.sqlite_rules.proofs.ListLemmas.{has_found}
use Rattle.vault_core.specs.Numbers.{right_number}
use Rattle.vault_core.specs.Vault.{merchant_at, entry_at, record_at, right_at}
use Rattle.vault_core.proofs.Maps.{bytes_total, bytes_exact, entry_total, entry_exact, record_total}
use Rattle.vault_core.proofs.Maps.{record_exact, right_total, right_exact}
use Rattle.vault_rules.specs.Codes.{natural, right_of}
use Rattle.vault_rules.specs.Lookups.{card_of}
use Rattle.vault_rules.specs.Rules.{keeps}
use Rattle.vault_rules.specs.VaultOf.{AreKeysApart, HasKeysApart, vault_of, merchant_value}
use Rattle.vault_rules.specs.VaultOf.{entry_key, entry_value, record_key, record_value, request_key}
use Rattle.vault_rules.specs.VaultOf.{right_key, grant_value, number_key}
use Rattle.vault_rules.specs.declared.rows.RawMerchant.{RawMerchant}
use Rattle.vault_rules.specs.declared.rows.RawCard.{RawCard}
use Rattle.vault_rules.specs.declared.rows.RawEntry.{RawEntry}
use Rattle.vault_rules.specs.declared.rows.RawRecord.{RawRecord}
use Rattle.vault_rules.specs.declared.rows.RawRight.{RawRight}
use Rattle.vault_rules.specs.AllRows.{Rows}
use Rattle.vault_rules.proofs.Keyed.{keys_once, find-some, pairs, get_first, len_is}
use Rattle.vault_rules.proofs.Kept as kept
use Rattle.vault_rules.proofs.Numbers.{int_is, int_same}
use Rattle.vault_rules.proofs.RightNumbers.{what_is}

-- keys that differ by one part differ by another that tells it
apart_by : {R K L : Type 0} (key : R → K) (other : R → L) (rows : List R)
    → ((a b : R) → Has rows a → Has rows b → other a ≡ other b → key a ≡ key b)
    → AreKeysApart key rows → AreKeysApart other rows
apart_by key other [] tells apart = tt
apart_by key other (r ∷ rows) tells apart = (
  λ s h same. apart.0 s h (tells r s (inl refl) (inr h) same),
  apart_by key other rows (λ a b h g. tells a b (inr h) (inr g)) apart.1,
)

-- what is at the key of a row is its value
get_held : {K X R : Type 0} {C : K → K → Ordering} (total : IsTotalOrder C) (exact : IsAntisymmetric C)
    (key : R → K) (value : R → X) (rows : List R)
    → AreKeysApart key rows → (r : R) → Has rows r
    → finite.get (finite.from_entries {R = C} (pairs total exact key value rows)) (key r) ≡ Some (value r)
get_held {R = R} {C = C} total exact key value rows apart r h =
    let test = λ (s : R). eq_by_cmp C (key r) (key s) in
    let first = find-some test rows r h (ap is_eq (tied_itself total (key r))) in
    let found = has_found test rows first.0 first.1 in
    let same =
    keys_once key rows apart first.0 r found.0 h
    (sym (exact (key r) (key first.0) ((Equal-is (C (key r) (key first.0))).0 found.1))) in
    get_first total exact key value (λ q s. eq_by_cmp C q (key s)) (λ q s. refl) rows (key r)
    ∙ ap (option_map value) first.1 ∙ ap (λ s. Some (value s)) same

-- keys that are apart by a number are apart by what the number stands for
numbered_apart : {R K Q : Type 0} (key : R → K) (shown : R → Q) (rows : List R) (number : R → ℤ)
    (stands : K → ℤ) → ((a : R) → Has rows a → number a ≡ stands (key a))
    → ((a b : R) → key a ≡ key b → number a ≡ number b → shown a ≡ shown b) → AreKeysApart shown rows
    → AreKeysApart key rows
numbered_apart key shown rows number stands is back apart =
    apart_by shown key rows (λ a b g k same. back a b same (is a g ∙ ap stands same ∙ sym (is b k))) apart

module _ (rows : Rows) (apart : HasKeysApart rows) where
  pub merchant_held : (m : RawMerchant) → Has rows.merchants m
      → merchant_at (vault_of rows) (string_bytes m.name) ≡ Some (merchant_value rows.counts m)
  merchant_held m h =
      get_held bytes_total bytes_exact (λ n. string_bytes n.name) (merchant_value rows.counts)
      rows.merchants apart.merchants m h

  pub entry_held : (e : RawEntry) → Has rows.entries e
      → entry_at (vault_of rows) (string_bytes e.merchant) (string_bytes e.token)
      ≡ Some (entry_value rows.cards e)
  entry_held e h =
      get_held entry_total entry_exact entry_key (entry_value rows.cards) rows.entries
      apart.entries e h

  -- a card row is the one of its id
  pub card_held : (c : RawCard) → Has rows.cards c → card_of rows.cards c.id ≡ Some c
  card_held c h =
      let test = λ (d : RawCard). int_eq d.id c.id in
      let first = find-some test rows.cards c h (int_same c.id c.id refl) in
      let found = has_found test rows.cards first.0 first.1 in
      let same =
      keys_once (λ d. d.id) rows.cards apart.cards first.0 c found.0 h
      (int_is first.0.id c.id found.1) in
      first.1 ∙ ap (λ d. Some d) same

  -- requests that are apart have keys that are apart, since they aren't negative
  requests_apart : ((r : ℕ) → keeps rows r ≡ true) → AreKeysApart record_key rows.records
  requests_apart keep =
      numbered_apart record_key request_key rows.records (λ r. r.request) (λ key. pos key.1)
      (λ a there. (kept.records_well rows keep a there).request.is)
      (λ a b same request i. ((same i).0, request i)) apart.records

  pub record_held : ((r : ℕ) → keeps rows r ≡ true) → (r : RawRecord) → Has rows.records r
      → record_at (vault_of rows) (string_bytes r.caller) (natural r.request) ≡ Some (record_value r)
  record_held keep r h =
      get_held record_total record_exact record_key record_value rows.records (requests_apart keep) r h

  pub entries_many : finite.len (vault_of rows).entries ≡ length rows.entries
  entries_many =
      len_is entry_total entry_exact entry_key (entry_value rows.cards) rows.entries apart.entries

  pub records_many : ((r : ℕ) → keeps rows r ≡ true)
      → finite.len (vault_of rows).records ≡ length rows.records
  records_many keep =
      len_is record_total record_exact record_key record_value rows.records (requests_apart keep)

  -- rights that are apart have keys that are apart, since each has a number of its own
  rights_apart : ((r : ℕ) → keeps rows r ≡ true) → AreKeysApart right_key rows.rights
  rights_apart keep =
      numbered_apart right_key number_key rows.rights (λ r. r.what) (λ key. pos (right_number key.1.1))
      (λ a there. what_is a.what (kept.rights_well rows keep a there).2)
      (λ a b same what i. ((same i).0, ((same i).1.0, what i))) apart.rights

  pub right_held : ((r : ℕ) → keeps rows r ≡ true) → (r : RawRight) → Has rows.rights r
      → right_at (vault_of rows) (string_bytes r.caller) (string_bytes r.merchant) (right_of r.what)
      ≡ Some (grant_value r)
  right_held keep r h =
      get_held right_total right_exact right_key grant_value rows.rights (rights_apart keep) r h
