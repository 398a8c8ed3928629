-- A walk over what stands at the names of merchants lists these names.
use Rattle.std.proofs.Common.{T, ◌≡◌, true, false, cond, ◌&&◌, List, [], ◌∷◌, map, refl, sym, ap}
use Rattle.std.proofs.Common.{◌∙◌, subst, inl, inr, Option, Some, None, is_some}
use Rattle.std.specs.Prelude.{option_map}
use Rattle.std.specs.BTreeMap as rows
use Rattle.std.specs.FinMap.{IsAntisymmetric, entries, entries_sorted, get-entries}
use Rattle.std.specs.FinMap.Entries.{find, below_all, is_sorted, same_entries}
use Rattle.std.specs.Ordering.{eq_by_cmp, is_lt}
use Rattle.std.specs.declared.cmp.Ordering.{Ordering}
use Rattle.vault_core.specs.Keys.{Bytes, bytes_cmp}
use Rattle.vault_core.specs.Vault.{Merchant, Vault, merchant_at}
use Rattle.vault_core.specs.Window.{row_of}
use Rattle.vault_core.specs.declared.row.MerchantRow.{MerchantRow}
use Rattle.vault_core.proofs.Maps.{bytes_exact, bytes_total, tied}
use Rattle.vault_store.specs.Listed.{HasNames, merchant_names}
use Rattle.vault_store.specs.ShownMerchants.{ShowsMerchants}
use Rattle.vault_store.proofs.EntriesLemmas.{ordered, looked_up}

module _ {K X Y : Type 0} (R : K → K → Ordering) (f : K → X → Y) where
  -- entries with other values at their keys
  abbrev valued : List (K × X) → List (K × Y)
  valued es = map (λ e. (e.0, f e.0 e.1)) es

  below-valued : (k : K) (es : List (K × X)) → below_all R k (valued es) ≡ below_all R k es
  below-valued k [] = refl
  below-valued k (e ∷ es) = ap (λ b. is_lt (R k e.0) && b) (below-valued k es)

  sorted-valued : (es : List (K × X)) → is_sorted R (valued es) ≡ is_sorted R es
  sorted-valued [] = refl
  sorted-valued (e ∷ es) = λ i. below-valued e.0 es i && sorted-valued es i

  keys-valued : (es : List (K × X)) → map (λ e. e.0) (valued es) ≡ map (λ e. e.0) es
  keys-valued [] = refl
  keys-valued (e ∷ es) = ap (λ ks. e.0 ∷ ks) (keys-valued es)

  find-valued : IsAntisymmetric R → (q : K) (es : List (K × X))
      → find R q (valued es) ≡ option_map (f q) (find R q es)
  find-valued exact q [] = refl
  find-valued exact q (e ∷ es) =
      let rest = find-valued exact q es in
      elim (tied exact q e.0) [
        | inl is ↦
            elim (eq_by_cmp R q e.0) as (λ b. cond b (Some (f e.0 e.1)) (find R q (valued es))
            ≡ option_map (f q) (cond b (Some e.1) (find R q es))) [
              | true ↦ ap (λ k. Some (f k e.1)) (sym is)
              | false ↦ rest
            ]
        | inr apart ↦
            ap (λ b. cond b (Some (f e.0 e.1)) (find R q (valued es))) apart ∙ rest
            ∙ sym (ap (λ b. option_map (f q) (cond b (Some e.1) (find R q es))) apart)
      ]

abbrev there : {X : Type 0} → X → Unit {0}
there x = tt

both_there : {X Y : Type 0} (a : Option X) (b : Option Y) → is_some a ≡ is_some b
    → option_map there a ≡ option_map there b
both_there None None same = refl
both_there None (Some y) same = cc
both_there (Some x) None same = cc
both_there (Some x) (Some y) same = refl

-- the names that are shown are those of the vault
pub names-shown : {X : Type 0} (shown : rows.BTreeMap Bytes X) → rows.IsOrdered bytes_cmp shown
    → (V : Vault) → HasNames shown V → merchant_names V ≡ map (λ e. e.0) shown.entries
names-shown {X = X} shown sorted V shows =
    let marked = λ (k : Bytes) (m : Merchant). there m in
    let shown_marked = λ (k : Bytes) (x : X). there x in
    sym (keys-valued bytes_cmp marked (entries V.merchants))
    ∙ ap (map (λ e. e.0))
    (same_entries bytes_cmp bytes_total bytes_exact (valued bytes_cmp marked (entries V.merchants))
    (valued bytes_cmp shown_marked shown.entries)
    (subst T (sym (sorted-valued bytes_cmp marked (entries V.merchants))) (entries_sorted V.merchants))
    (subst T (sym (sorted-valued bytes_cmp shown_marked shown.entries))
    (ordered bytes_cmp shown.entries sorted))
    (λ q.
    find-valued bytes_cmp marked bytes_exact q (entries V.merchants)
    ∙ ap (option_map there) (sym (get-entries V.merchants q))
    ∙ sym (both_there (rows.get bytes_cmp shown q) (merchant_at V q) (shows q))
    ∙ ap (option_map there) (looked_up bytes_cmp q shown.entries)
    ∙ sym (find-valued bytes_cmp shown_marked bytes_exact q shown.entries)))
    ∙ keys-valued bytes_cmp shown_marked shown.entries

mapped_there : {X Y : Type 0} (f : X → Y) (o : Option X) → is_some (option_map f o) ≡ is_some o
mapped_there f None = refl
mapped_there f (Some x) = refl

-- the rows of a vault's merchants have their names
pub has-names : (shown : rows.BTreeMap Bytes MerchantRow) (V : Vault) → ShowsMerchants shown V
    → HasNames shown V
has-names shown V shows m = ap is_some (shows.at m) ∙ mapped_there (row_of V m) (merchant_at V m)
