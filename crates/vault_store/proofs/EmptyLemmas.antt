-- Maps with nothing in them show the empty vault.
use Rattle.std.proofs.Common.{◌≡◌, [], length, sym, ap, ◌∙◌}
use Rattle.std.specs.Prelude.{option_map}
use Rattle.std.specs.BTreeMap as rows
use Rattle.std.specs.BTreeMap.{is_at}
use Rattle.std.specs.FinMap as map
use Rattle.std.specs.Map.{lookup}
use Rattle.std.specs.declared.cmp.Ordering.{Ordering}
use Rattle.vault_core.specs.Keys.{Bytes, bytes_cmp}
use Rattle.vault_core.specs.Vault.{Merchant, empty_vault}
use Rattle.vault_core.specs.Window.{row_of}
use Rattle.vault_core.specs.declared.row.MerchantRow.{MerchantRow}
use Rattle.vault_store.specs.Shown.{Shows}
use Rattle.vault_store.specs.ShownMerchants.{ShowsMerchants}

module _ {K : Type 0} (R : K → K → Ordering) where
  pub shows-empty : {X : Type 0} (shown : rows.BTreeMap K X) → shown.entries ≡ [] → Shows R shown map.empty
  shows-empty {X = X} shown none = record {
    at = λ key. ap (lookup (is_at (R key))) none ∙ sym (map.get-empty R key);
    many = ap length none ∙ sym (map.len-empty R X);
  }

pub shows_merchants-empty : (shown : rows.BTreeMap Bytes MerchantRow) → shown.entries ≡ []
    → ShowsMerchants shown empty_vault
shows_merchants-empty shown none = record {
  at =
      λ m. ap (lookup (is_at (bytes_cmp m))) none
      ∙ sym (ap (option_map (row_of empty_vault m)) (map.get-empty bytes_cmp m));
  many = ap length none ∙ sym (map.len-empty bytes_cmp Merchant);
}
