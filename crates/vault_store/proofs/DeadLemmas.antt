-- The dead tokens of a merchant are those that a walk over the entries in order lists.
use Rattle.std.proofs.Common.{◌≡◌, ℕ, Bool, true, false, cond, ◌&&◌, List, [], ◌∷◌, map, refl, sym, ap}
use Rattle.std.proofs.Common.{◌∙◌, None}
use Rattle.std.specs.BTreeMap as rows
use Rattle.std.specs.Cmp.{eq_by_cmp_equiv}
use Rattle.std.specs.Cmp.Lexicographic.{texts_ties}
use Rattle.std.specs.FinMap.{entries, entries_sorted, get-entries}
use Rattle.std.specs.FinMap.Entries.{same_entries, find-where_key}
use Rattle.std.specs.FinMap.Entries.{is_sorted-where_key}
use Rattle.std.specs.List.{filter}
use Rattle.std.specs.Ordering.{eq_by_cmp}
use Rattle.std.proofs.lemmas.List.Elements.{filter_agree}
use Rattle.vault_pan.specs.CardText.{same}
use Rattle.vault_core.specs.Dead.{dead_tokens, is_dead}
use Rattle.vault_core.specs.Keys.{Bytes, bytes_cmp, entry_cmp}
use Rattle.vault_core.specs.Vault.{Vault, entries_of}
use Rattle.vault_core.specs.Window.{moment_at}
use Rattle.vault_core.specs.declared.row.Entry.{Entry}
use Rattle.vault_core.proofs.CurrentLemmas.{get-entries_of}
use Rattle.vault_core.proofs.Maps.{bytes_total, entry_total, entry_exact}
use Rattle.vault_store.specs.Shown.{Shows}
use Rattle.vault_store.proofs.EntriesLemmas.{ordered, looked_up}

-- an entry at its key is a dead one of the merchant
abbrev pub is_dead_at : Bytes → ℕ → (Bytes × Bytes) × Entry → Bool
is_dead_at m at e = same e.0.0 m && is_dead e.1 at

-- the tokens of those entries
abbrev pub dead_in : Bytes → ℕ → List ((Bytes × Bytes) × Entry) → List Bytes
dead_in m at es = map (λ e. e.0.1) (filter (is_dead_at m at) es)

-- a filter of what a filter keeps
twice : {X : Type 0} (p q : X → Bool) (xs : List X) → filter q (filter p xs) ≡ filter (λ x. p x && q x) xs
twice p q [] = refl
twice p q (x ∷ xs) =
    elim (p x) as (λ b. filter q (cond b (x ∷ filter p xs) (filter p xs))
    ≡ cond (b && q x) (x ∷ filter (λ y. p y && q y) xs) (filter (λ y. p y && q y) xs)) [
      | true ↦ ap (λ ys. cond (q x) (x ∷ ys) ys) (twice p q xs)
      | false ↦ twice p q xs
    ]

own_is : (m k : Bytes) → eq_by_cmp bytes_cmp m k ≡ same k m
own_is m k = (eq_by_cmp_equiv bytes_total).symm m k ∙ sym (texts_ties k m)

module _ (V : Vault) (shown : rows.BTreeMap (Bytes × Bytes) Entry) (sorted : rows.IsOrdered entry_cmp shown)
    (shows : Shows entry_cmp shown V.entries) where
  -- the entries of a merchant, in order
  own_entries : (m : Bytes)
      → entries (entries_of V m) ≡ filter (λ e. eq_by_cmp bytes_cmp m e.0.0) shown.entries
  own_entries m =
      let own = λ (key : Bytes × Bytes). eq_by_cmp bytes_cmp m key.0 in
      same_entries entry_cmp entry_total entry_exact _ _ (entries_sorted (entries_of V m))
      (is_sorted-where_key entry_cmp own shown.entries (ordered entry_cmp shown.entries sorted))
      (λ q.
      sym (get-entries (entries_of V m) q) ∙ get-entries_of V m q
      ∙ ap (λ x. cond (own q) x None) (sym (shows.at q) ∙ looked_up entry_cmp q shown.entries)
      ∙ sym (find-where_key entry_cmp own q (λ x e. ap own (sym (entry_exact q x e))) shown.entries))

  pub dead-is : (m : Bytes) (now : ℕ)
      → dead_tokens V m now ≡ dead_in m (moment_at V m now) shown.entries
  unfolding dead_tokens
  dead-is m now =
      let at = moment_at V m now in
      ap (map (λ e. e.0.1))
      (ap (filter (λ e. is_dead e.1 at)) (own_entries m)
      ∙ twice (λ e. eq_by_cmp bytes_cmp m e.0.0) (λ e. is_dead e.1 at) shown.entries
      ∙ filter_agree _ _ (λ e. ap (λ b. b && is_dead e.1 at) (own_is m e.0.0)) shown.entries)
