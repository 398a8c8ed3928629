-- Entries with another one at a key, or with none there.
use Rattle.std.proofs.Common.{◌≡◌, false, cond, Option, Some, None, refl, sym, ap, ◌∙◌, inl, inr}
use Rattle.std.specs.FinMap as map
use Rattle.std.specs.Cmp.{tied_itself}
use Rattle.std.specs.Ordering.{eq_by_cmp, is_eq}
use Rattle.vault_core.specs.Keys.{Bytes, entry_cmp}
use Rattle.vault_core.specs.declared.row.Entry.{Entry}
use Rattle.vault_core.proofs.Maps.{entry_total, entry_exact, tied, get-insert_same, get-insert_other}
use Rattle.vault_store.specs.Index.{with_at}

get-with_at : (F : map.FinMap entry_cmp Entry) (k : Bytes × Bytes) (o : Option Entry) (q : Bytes × Bytes)
    → map.get (with_at F k o) q ≡ cond (eq_by_cmp entry_cmp q k) o (map.get F q)
get-with_at F k None q = map.get-remove entry_total F k q
get-with_at F k (Some entry) q = map.get-insert entry_total F k entry q

-- what has the entry at the key, and else the same entries, is that
with_at-is : (F G : map.FinMap entry_cmp Entry) (k : Bytes × Bytes) (o : Option Entry) → map.get G k ≡ o
    → ((q : Bytes × Bytes) → eq_by_cmp entry_cmp q k ≡ false → map.get F q ≡ map.get G q)
    → with_at F k o ≡ G
with_at-is F G k o here others =
    map.same_map entry_total entry_exact (with_at F k o) G (λ q.
    get-with_at F k o q
    ∙ elim (tied entry_exact q k) [
      | inl is ↦
          ap (λ (x : Bytes × Bytes). cond (eq_by_cmp entry_cmp x k) o (map.get F x)) is
          ∙ ap (λ r. cond (is_eq r) o (map.get F k)) (tied_itself entry_total k) ∙ sym here
          ∙ sym (ap (map.get G) is)
      | inr apart ↦ ap (λ b. cond b o (map.get F q)) apart ∙ others q apart
    ])

module _ (F : map.FinMap entry_cmp Entry) (k : Bytes × Bytes) where
  pub get-removed : map.get (map.remove F k) k ≡ None
  get-removed =
      map.get-remove entry_total F k k
      ∙ ap (λ r. cond (is_eq r) None (map.get F k)) (tied_itself entry_total k)

  -- to take out what isn't there changes nothing
  pub removed-absent : map.get F k ≡ None → map.remove F k ≡ F
  removed-absent none = with_at-is F F k None none (λ q apart. refl)

  pub inserted-again : (entry : Entry) → map.insert (map.remove F k) k entry ≡ map.insert F k entry
  inserted-again entry =
      with_at-is (map.remove F k) (map.insert F k entry) k (Some entry)
      (get-insert_same entry_total entry_exact F k entry)
      (λ q apart.
      map.get-remove entry_total F k q ∙ ap (λ b. cond b None (map.get F q)) apart
      ∙ sym (get-insert_other entry_total entry_exact F k entry q apart))

  -- what stood at a key is back there
  pub put_back-is : (entry : Entry) (was : Option Entry) → was ≡ map.get F k
      → with_at (map.insert F k entry) k was ≡ F
  put_back-is entry was is =
      with_at-is (map.insert F k entry) F k was (sym is)
      (λ q apart. get-insert_other entry_total entry_exact F k entry q apart)
