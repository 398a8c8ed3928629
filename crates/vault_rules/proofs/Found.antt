-- What the vault of rows has is what its rows have.
use Rattle.std.proofs.Common.{◌≡◌, ℕ, true, ◌&&◌, length, find, option_map, refl, ◌∙◌}
use Rattle.std.specs.Prelude.{string_bytes, bytes_eq}
use Rattle.std.specs.FinMap as finite
use Rattle.std.specs.Cmp.{eq_by_cmp_equiv}
use Rattle.std.specs.Ordering.{eq_by_cmp, is_eq, ordering_then}
use Rattle.std.specs.declared.cmp.Ordering.{Ordering}
use Rattle.std.specs.declared.cmp.Ordering.TheVariants.{Less, Equal, Greater}
use Rattle.std.proofs.lemmas.Map.Text.{is_eq-slice_cmp}
use Rattle.std.proofs.lemmas.Slice.Eq.{bytes_eq-Decides}
use Rattle.vault_core.specs.Keys.{Bytes, bytes_cmp, entry_cmp, record_cmp, right_cmp}
use Rattle.vault_core.specs.Vault.{merchant_at, entry_at, record_at, right_at, made_count}
use Rattle.vault_core.specs.declared.right.Right.{Right}
use Rattle.vault_core.proofs.Maps.{bytes_total, bytes_exact, entry_total, entry_exact, record_total}
use Rattle.vault_core.proofs.Maps.{record_exact, right_total, right_exact}
use Rattle.vault_rules.specs.Lookups.{merchant_of, entry_of, held_by}
use Rattle.vault_rules.specs.VaultOf.{vault_of, merchant_value, entry_key, entry_value, record_key}
use Rattle.vault_rules.specs.VaultOf.{record_value, right_key, grant_value, HasKeysApart}
use Rattle.vault_rules.specs.AllRows.{Rows}
use Rattle.vault_rules.proofs.Keyed.{get_first, len_is, kept_is}

pub bytes_are : (a b : Bytes) → bytes_eq a b ≡ true → a ≡ b
bytes_are a b = (bytes_eq-Decides a b).0

pub bytes_same : (a b : Bytes) → a ≡ b → bytes_eq a b ≡ true
bytes_same a b = (bytes_eq-Decides a b).1

bytes_tie : (q k : Bytes) → eq_by_cmp bytes_cmp q k ≡ bytes_eq k q
bytes_tie q k = (eq_by_cmp_equiv bytes_total).symm q k ∙ is_eq-slice_cmp k q

both_equal : (a b : Ordering) → is_eq (ordering_then a b) ≡ (is_eq a && is_eq b)
both_equal Less b = refl
both_equal Equal b = refl
both_equal Greater b = refl

entries_tie : (q k : Bytes × Bytes) → eq_by_cmp entry_cmp q k ≡ (bytes_eq k.0 q.0 && bytes_eq k.1 q.1)
entries_tie q k =
    both_equal (bytes_cmp q.0 k.0) (bytes_cmp q.1 k.1) ∙ (λ i. bytes_tie q.0 k.0 i && bytes_tie q.1 k.1 i)

module _ (rows : Rows) where
  pub merchant_is : (name : Bytes)
      → merchant_at (vault_of rows) name
      ≡ option_map (merchant_value rows.counts) (merchant_of rows.merchants name)
  merchant_is name =
      get_first bytes_total bytes_exact (λ m. string_bytes m.name) (merchant_value rows.counts)
      (λ q m. bytes_eq (string_bytes m.name) q) (λ q m. bytes_tie q (string_bytes m.name))
      rows.merchants name

  pub entry_is : (m token : Bytes)
      → entry_at (vault_of rows) m token
      ≡ option_map (entry_value rows.cards) (entry_of rows.entries m token)
  entry_is m token =
      get_first entry_total entry_exact entry_key (entry_value rows.cards)
      (λ q e. bytes_eq (string_bytes e.merchant) q.0 && bytes_eq (string_bytes e.token) q.1)
      (λ q e. entries_tie q (entry_key e)) rows.entries (m, token)

  pub record_is : (caller : Bytes) (request : ℕ)
      → record_at (vault_of rows) caller request
      ≡ option_map record_value
      (find (λ r. eq_by_cmp record_cmp (caller, request) (record_key r)) rows.records)
  record_is caller request =
      get_first record_total record_exact record_key record_value
      (λ q r. eq_by_cmp record_cmp q (record_key r)) (λ q r. refl) rows.records (caller, request)

  pub right_is : (caller m : Bytes) (right : Right)
      → right_at (vault_of rows) caller m right
      ≡ option_map grant_value
      (find (λ r. eq_by_cmp right_cmp (caller, (m, right)) (right_key r)) rows.rights)
  right_is caller m right =
      get_first right_total right_exact right_key grant_value
      (λ q r. eq_by_cmp right_cmp q (right_key r)) (λ q r. refl) rows.rights (caller, (m, right))

  pub many_is : HasKeysApart rows → finite.len (vault_of rows).merchants ≡ length rows.merchants
  many_is apart =
      len_is bytes_total bytes_exact (λ m. string_bytes m.name) (merchant_value rows.counts)
      rows.merchants apart.merchants

  pub made_is : HasKeysApart rows → (name : Bytes)
      → made_count (vault_of rows) name ≡ held_by rows.entries name
  made_is apart name =
      kept_is entry_total entry_exact entry_key (entry_value rows.cards)
      (λ key. eq_by_cmp bytes_cmp name key.0)
      (λ e. bytes_eq (string_bytes e.merchant) name) (λ e. bytes_tie name (string_bytes e.merchant))
      rows.entries apart.entries
