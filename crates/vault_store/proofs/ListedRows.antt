-- The rows of a vault's merchants, found by name.
use Rattle.std.proofs.Common.{T, ◌≡◌, ◌<◌, ◌+◌, ℕ, Bool, true, false, cond, ◌&&◌, List, [], ◌∷◌, ◌++◌, map}
use Rattle.std.proofs.Common.{refl, sym, ap, ◌∙◌, subst, Option, Some, None, length, get_or, drop, drop-cons}
use Rattle.std.proofs.Common.{add-one, append_assoc}
use Rattle.std.specs.Prelude.{option_map}
use Rattle.std.specs.Cmp.{IsTotalOrder, tied_itself}
use Rattle.std.specs.FinMap.{entries, entries_sorted, get-entries}
use Rattle.std.specs.FinMap.Entries.{find, below_all, is_sorted}
use Rattle.std.specs.List.{AllByRecursion}
use Rattle.std.specs.Ordering.{is_eq, is_lt, ordering_reverse}
use Rattle.std.specs.declared.cmp.Ordering.{Ordering}
use Rattle.std.specs.declared.cmp.Ordering.TheVariants.{Less, Equal, Greater}
use Rattle.vault_core.specs.Keys.{Bytes, bytes_cmp}
use Rattle.vault_core.specs.Vault.{Vault, Merchant, merchant_at}
use Rattle.vault_core.specs.Window.{row_at, row_of}
use Rattle.vault_core.specs.declared.row.MerchantRow.{MerchantRow}
use Rattle.vault_core.proofs.Maps.{bytes_total}
use Rattle.vault_store.specs.Listed.{merchant_names, merchant_rows}

-- a row at its name before others, where there is one
abbrev pub with_row : Bytes → Option MerchantRow → List (Bytes × MerchantRow) → List (Bytes × MerchantRow)
with_row name None rows = rows
with_row name (Some row) rows = (name, row) ∷ rows

-- the rows of names, where there are any
abbrev pub rows_for : Vault → List Bytes → List (Bytes × MerchantRow)
rows_for V [] = []
rows_for V (name ∷ names) = with_row name (row_at V name) (rows_for V names)

first : (a b : Bool) → T (a && b) → T a
first true b p = tt
first false b p = absurd p

second : (a b : Bool) → T (a && b) → T b
second true b p = p
second false b p = absurd p

module _ {K X : Type 0} (R : K → K → Ordering) where
  -- each entry is what a function finds at its key
  abbrev AreFound : (K → Option X) → List (K × X) → Type 0
  AreFound f es = AllByRecursion (λ e. f e.0 ≡ Some e.1) es

  module _ (total : IsTotalOrder R) where
    above : (q k : K) (x y : Option X) → T (is_lt (R k q)) → cond (is_eq (R q k)) x y ≡ y
    above q k x y less =
        elim (R k q) as (λ o. R k q ≡ o → T (is_lt o) → cond (is_eq (R q k)) x y ≡ y) [
          | Less ↦ λ is _. ap (λ o. cond (is_eq o) x y) (total.antisymm q k ∙ ap ordering_reverse is)
          | Equal ↦ λ is h. absurd h
          | Greater ↦ λ is h. absurd h
        ] refl less

    later : (k : K) (x : X) (all es : List (K × X)) → T (below_all R k es) → AreFound (λ q. find R q all) es
        → AreFound (λ q. find R q ((k, x) ∷ all)) es
    later k x all [] less h = tt
    later k x all (e ∷ es) less h =
        (above e.0 k (Some x) (find R e.0 all) (first _ _ less) ∙ h.0, later k x all es (second _ _ less) h.1)

    found : (es : List (K × X)) → T (is_sorted R es) → AreFound (λ q. find R q es) es
    found [] sorted = tt
    found (e ∷ es) sorted = (
      ap (λ o. cond (is_eq o) (Some e.1) (find R e.0 es)) (tied_itself total e.0),
      later e.0 e.1 es es (first _ _ sorted) (found es (second _ _ sorted)),
    )

module _ (V : Vault) where
  rows-found : (es : List (Bytes × Merchant)) → AreFound bytes_cmp (λ q. merchant_at V q) es
      → rows_for V (map (λ e. e.0) es) ≡ map (λ e. (e.0, row_of V e.0 e.1)) es
  rows-found [] h = refl
  rows-found (e ∷ es) h =
      let rest = rows_for V (map (λ x. x.0) es) in
      ap (λ (o : Option Merchant). with_row e.0 (option_map (row_of V e.0) o) rest) h.0
      ∙ ap (λ rows. (e.0, row_of V e.0 e.1) ∷ rows) (rows-found es h.1)

  -- those of all names are all
  pub rows-all : rows_for V (merchant_names V) ≡ merchant_rows V
  rows-all =
      rows-found (entries V.merchants)
      (subst (λ f. AreFound bytes_cmp f (entries V.merchants)) (λ i q. sym (get-entries V.merchants q) i)
      (found bytes_cmp bytes_total (entries V.merchants) (entries_sorted V.merchants)))

  lead : (names : List Bytes) (i : ℕ) (name : Bytes) → i < length names → name ≡ get_or names i name
      → rows_for V (drop i names) ≡ with_row name (row_at V name) (rows_for V (drop (i + 1) names))
  lead names i name below is =
      let left = rows_for V (drop (i + 1) names) in
      ap (rows_for V) (let e : drop i names ≡ get_or names i name ∷ drop (i + 1) names =
      rw (add-one, drop-cons names i name) in e)
      ∙ ap (λ n. with_row n (row_at V n) left) (sym is)

  -- a name's row goes over to those that are found
  pub rows-step : (names : List Bytes) (rows : List (Bytes × MerchantRow)) (i : ℕ) (name : Bytes)
      (row : MerchantRow) → i < length names → name ≡ get_or names i name → row_at V name ≡ Some row
      → (rows ++ (name, row) ∷ []) ++ rows_for V (drop (i + 1) names) ≡ rows ++ rows_for V (drop i names)
  rows-step names rows i name row below is found =
      let left = rows_for V (drop (i + 1) names) in
      append_assoc rows ((name, row) ∷ []) left
      ∙ sym (ap (λ all. rows ++ all) (lead names i name below is ∙ ap (λ o. with_row name o left) found))

  -- and a name without one adds none
  pub rows-skip : (names : List Bytes) (rows : List (Bytes × MerchantRow)) (i : ℕ) (name : Bytes)
      → i < length names → name ≡ get_or names i name → row_at V name ≡ None
      → rows ++ rows_for V (drop (i + 1) names) ≡ rows ++ rows_for V (drop i names)
  rows-skip names rows i name below is none =
      let left = rows_for V (drop (i + 1) names) in
      sym (ap (λ all. rows ++ all) (lead names i name below is ∙ ap (λ o. with_row name o left) none))
