-- The counts of rows that keep the rules.
use Rattle.std.proofs.Common.{◌≡◌, ℕ, ℤ, pos, ◌≤◌, ◌&&◌, ◌==◌, Bool, true, false, cond, List, find, Option}
use Rattle.std.proofs.Common.{Some, None, option_map, is_some, refl, sym, ap, subst, ◌∙◌, arith, true≢false}
use Rattle.std.specs.Prelude.{string_bytes, bytes_eq, if◌then◌else◌}
use Rattle.std.specs.Option.{option_map_or}
use Rattle.std.specs.Ordering.{int_eq}
use Rattle.std.proofs.lemmas.Bool.{and_parts, and_from}
use Rattle.std.proofs.lemmas.Bool.Decides.{nat_tests, Decides-eqb}
use Rattle.sqlite_rules.specs.Lists.{Has}
use Rattle.sqlite_rules.proofs.ListLemmas.{has_found}
use Rattle.vault_core.specs.Keys.{Bytes}
use Rattle.vault_core.specs.Sound.{IsSoundMerchant}
use Rattle.vault_core.specs.Vault.{Vault, Merchant, merchant_at, made_count}
use Rattle.vault_rules.specs.Codes.{natural}
use Rattle.vault_rules.specs.Lookups.{merchant_of, total_of, held_by, is_known}
use Rattle.vault_rules.specs.Rules.{keeps}
use Rattle.vault_rules.specs.VaultOf.{vault_of, merchant_value, count_key, HasKeysApart}
use Rattle.vault_rules.specs.declared.rows.RawMerchant.{RawMerchant}
use Rattle.vault_rules.specs.declared.rows.RawCount.{RawCount}
use Rattle.vault_rules.specs.AllRows.{Rows}
use Rattle.vault_rules.proofs.Found.{bytes_are, bytes_same, merchant_is, made_is}
use Rattle.vault_rules.proofs.FoundRows.{merchant_found, merchant_row}
use Rattle.vault_rules.proofs.Keyed.{find-some, keys_once}
use Rattle.vault_rules.proofs.Kept as kept
use Rattle.vault_rules.proofs.MerchantRows.{row_sound}
use Rattle.vault_rules.proofs.Numbers.{IsBetween, int_is, int_same}
use Rattle.vault_rules.proofs.RowsSound.{held_none}

-- how many tokens a merchant has (1), and how often a number was given (2) or denied (3)
abbrev pub count_of : Vault → Bytes → ℕ → ℕ
count_of V m kind =
    if kind == 1 then made_count V m
    else if kind == 2 then option_map_or (λ (merchant : Merchant). merchant.given) (merchant_at V m) 0
    else if kind == 3 then option_map_or (λ (merchant : Merchant). merchant.denied) (merchant_at V m) 0
    else 0

abbrev counts_at : Bytes → ℤ → RawCount → Bool
counts_at name kind c = bytes_eq (string_bytes c.merchant) name && int_eq c.kind kind

-- the row of a count
pub record CountRow (counts : List RawCount) (name : Bytes) (kind : ℤ) (c : RawCount) : Type 0 where
  pub there : Has counts c
  pub merchant_is : string_bytes c.merchant ≡ name
  pub kind_is : c.kind ≡ kind
  pub total_is : total_of counts name kind ≡ c.total

count_found : (counts : List RawCount) (name : Bytes) (kind : ℤ) (c : RawCount)
    → find (counts_at name kind) counts ≡ Some c → CountRow counts name kind c
count_found counts name kind c h =
    let found = has_found (counts_at name kind) counts c h in
    let keys = and_parts (bytes_eq (string_bytes c.merchant) name) (int_eq c.kind kind) found.1 in
    record {
      there = found.0;
      merchant_is = bytes_are (string_bytes c.merchant) name keys.0;
      kind_is = int_is c.kind kind keys.1;
      total_is = ap (λ (o : Option RawCount). option_map_or (λ (x : RawCount). x.total) o (pos 0)) h;
    }

-- a total is that of a row, or 0
pub count_cases : (counts : List RawCount) (name : Bytes) (kind : ℤ) (P : ℤ → Type 0)
    → P (pos 0) → ((c : RawCount) → CountRow counts name kind c → P c.total) → P (total_of counts name kind)
count_cases counts name kind P none some = by_find (find (counts_at name kind) counts) refl
  where
    by_find : (o : Option RawCount) → find (counts_at name kind) counts ≡ o
        → P (option_map_or (λ (c : RawCount). c.total) o (pos 0))
    by_find None is = none
    by_find (Some c) is = some c (count_found counts name kind c is)

module _ (rows : Rows) where
  -- a row's total is its count's
  pub count_total : HasKeysApart rows → (c : RawCount) → Has rows.counts c
      → total_of rows.counts (string_bytes c.merchant) c.kind ≡ c.total
  count_total apart c h =
      let passes =
      and_from (bytes_eq (string_bytes c.merchant) (string_bytes c.merchant)) (int_eq c.kind c.kind)
      (bytes_same (string_bytes c.merchant) (string_bytes c.merchant) refl) (int_same c.kind c.kind refl) in
      let found = find-some (counts_at (string_bytes c.merchant) c.kind) rows.counts c h passes in
      let row = count_found rows.counts (string_bytes c.merchant) c.kind found.0 found.1 in
      row.total_is
      ∙ ap (λ x. x.total) (keys_once count_key rows.counts apart.counts found.0 c row.there h
      (λ i. (row.merchant_is i, row.kind_is i)))

module _ (rows : Rows) (keep : (r : ℕ) → keeps rows r ≡ true) where
  pub total_between : (name : Bytes) (kind : ℤ)
      → IsBetween 0 4611686018427387903 (total_of rows.counts name kind)
  total_between name kind =
      count_cases rows.counts name kind (IsBetween 0 4611686018427387903)
      (record { is = refl; low_is = omega arith; high_is = omega arith })
      (λ c row.
      let well = (kept.counts_well rows keep c row.there).total in
      record { is = well.is; low_is = omega arith; high_is = well.high_is })

  -- a merchant that isn't there has no counts
  pub total_none : (name : Bytes) (kind : ℤ) → merchant_of rows.merchants name ≡ None
      → total_of rows.counts name kind ≡ pos 0
  total_none name kind none =
      count_cases rows.counts name kind (λ z. z ≡ pos 0) refl (λ c row.
      let known =
      subst (λ n. is_known rows.merchants n ≡ true) row.merchant_is
      (kept.counts_well rows keep c row.there).known in
      absurd (true≢false (sym known ∙ ap is_some none)))

  -- there is no fourth kind
  total_other : (name : Bytes) (kind : ℕ) → (kind == 1) ≡ false → (kind == 2) ≡ false → (kind == 3) ≡ false
      → total_of rows.counts name (pos kind) ≡ pos 0
  total_other name kind one two three =
      count_cases rows.counts name (pos kind) (λ z. z ≡ pos 0) refl (λ c row.
      let well = subst (IsBetween 1 3) row.kind_is (kept.counts_well rows keep c row.there).kind in
      absurd (none kind one two three well.low_is well.high_is))
    where
      none : (n : ℕ) → (n == 1) ≡ false → (n == 2) ≡ false → (n == 3) ≡ false → 1 ≤ n → n ≤ 3 → ⊥
      none n a b c low high = grind (arith, nat_tests)

  made_total : HasKeysApart rows → (name : Bytes)
      → total_of rows.counts name (pos 1) ≡ pos (made_count (vault_of rows) name)
  made_total apart name =
      by_merchant (merchant_of rows.merchants name) refl ∙ ap pos (sym (made_is rows apart name))
    where
      by_merchant : (o : Option RawMerchant) → merchant_of rows.merchants name ≡ o
          → total_of rows.counts name (pos 1) ≡ pos (held_by rows.entries name)
      by_merchant None is = total_none name (pos 1) is ∙ ap pos (sym (held_none rows keep name is))
      by_merchant (Some m) is =
          let row = merchant_found rows.merchants name m is in
          subst (λ n. total_of rows.counts n (pos 1) ≡ pos (held_by rows.entries n)) row.name_is
          (kept.counted rows keep row.m row.there).0

  merchant_total : (kind : ℕ) (field : Merchant → ℕ)
      → ((m : RawMerchant)
      → field (merchant_value rows.counts m)
      ≡ natural (total_of rows.counts (string_bytes m.name) (pos kind)))
      → (name : Bytes)
      → total_of rows.counts name (pos kind)
      ≡ pos (option_map_or field (merchant_at (vault_of rows) name) 0)
  merchant_total kind field is_field name =
      by_merchant (merchant_of rows.merchants name) refl
      ∙ ap (λ (o : Option Merchant). pos (option_map_or field o 0)) (sym (merchant_is rows name))
    where
      by_merchant : (o : Option RawMerchant) → merchant_of rows.merchants name ≡ o
          → total_of rows.counts name (pos kind)
          ≡ pos (option_map_or field (option_map (merchant_value rows.counts) o) 0)
      by_merchant None is = total_none name (pos kind) is
      by_merchant (Some m) is =
          let row = merchant_found rows.merchants name m is in
          (total_between name (pos kind)).is
          ∙ ap (λ n. pos (natural (total_of rows.counts n (pos kind)))) (sym row.name_is)
          ∙ ap pos (sym (is_field m))

  counts_same : HasKeysApart rows → (name : Bytes) (kind : ℕ)
      → total_of rows.counts name (pos kind) ≡ pos (count_of (vault_of rows) name kind)
  counts_same apart name kind = by_kind (kind == 1) (kind == 2) (kind == 3) refl refl refl
    where
      by_kind : (a b c : Bool) → (kind == 1) ≡ a → (kind == 2) ≡ b → (kind == 3) ≡ c
          → total_of rows.counts name (pos kind)
          ≡ pos (cond a (made_count (vault_of rows) name)
          (cond b (option_map_or (λ (m : Merchant). m.given) (merchant_at (vault_of rows) name) 0)
          (cond c (option_map_or (λ (m : Merchant). m.denied) (merchant_at (vault_of rows) name) 0) 0)))
      by_kind true b c one _ _ =
          subst (λ n. total_of rows.counts name (pos n) ≡ pos (made_count (vault_of rows) name))
          (sym ((Decides-eqb kind 1).0 one)) (made_total apart name)
      by_kind false true c _ two _ =
          subst (λ n. total_of rows.counts name (pos n)
          ≡ pos (option_map_or (λ (m : Merchant). m.given) (merchant_at (vault_of rows) name) 0))
          (sym ((Decides-eqb kind 2).0 two))
          (merchant_total 2 (λ (m : Merchant). m.given) (λ m. refl) name)
      by_kind false false true _ _ three =
          subst (λ n. total_of rows.counts name (pos n)
          ≡ pos (option_map_or (λ (m : Merchant). m.denied) (merchant_at (vault_of rows) name) 0))
          (sym ((Decides-eqb kind 3).0 three))
          (merchant_total 3 (λ (m : Merchant). m.denied) (λ m. refl) name)
      by_kind false false false one two three = total_other name kind one two three

  -- a merchant of rows
  row_fine : (m : RawMerchant) → Has rows.merchants m
      → IsSoundMerchant (string_bytes m.name) (merchant_value rows.counts m)
  row_fine m h =
      row_sound rows keep m h (total_between (string_bytes m.name) (pos 2)).high_is
      (total_between (string_bytes m.name) (pos 3)).high_is

  pub merchants_sound : (name : Bytes) (merchant : Merchant)
      → merchant_at (vault_of rows) name ≡ Some merchant → IsSoundMerchant name merchant
  merchants_sound name merchant h =
      let it = merchant_row rows name merchant h in
      subst (IsSoundMerchant name) it.1
      (subst (λ n. IsSoundMerchant n (merchant_value rows.counts it.0.m)) it.0.name_is
      (row_fine it.0.m it.0.there))

-- the counts of the vault are the totals of the rows
pub counts_are : (rows : Rows)
    → HasKeysApart rows → ((r : ℕ) → keeps rows r ≡ true) → (name : Bytes) (kind : ℕ)
    → total_of rows.counts name (pos kind) ≡ pos (count_of (vault_of rows) name kind)
counts_are rows apart keep = counts_same rows keep apart
