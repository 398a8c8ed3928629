-- A walk over an ordered map lists the entries of the finite map that it shows.
use Rattle.std.proofs.Common.{T, ◌≡◌, Bool, true, false, cond, ◌&&◌, List, [], ◌∷◌, refl, sym, ap}
use Rattle.std.proofs.Common.{◌∙◌, subst, Some}
use Rattle.std.specs.BTreeMap as rows
use Rattle.std.specs.BTreeMap.{is_at}
use Rattle.std.specs.Cmp.{IsTotalOrder}
use Rattle.std.specs.FinMap.{FinMap, IsAntisymmetric, entries, entries_sorted, get, get-entries}
use Rattle.std.specs.FinMap.Entries.{find, below_all, is_sorted, same_entries}
use Rattle.std.specs.List.{AllByRecursion}
use Rattle.std.specs.List.Sorted.{IsStrictlySortedBy}
use Rattle.std.specs.Map.{lookup, keys_of}
use Rattle.std.specs.Ordering.{is_lt}
use Rattle.std.specs.declared.cmp.Ordering.{Ordering}
use Rattle.std.specs.declared.cmp.Ordering.TheVariants.{Less}

both : (a b : Bool) → T a → T b → T (a && b)
both true b p q = q
both false b p q = absurd p

module _ {K X : Type 0} (R : K → K → Ordering) where
  below : (k : K) (es : List (K × X)) → AllByRecursion (λ y. R k y ≡ Less) (keys_of es) → T (below_all R k es)
  below k [] h = tt
  below k (e ∷ es) h = both _ _ (subst (λ r. T (is_lt r)) (sym h.0) tt) (below k es h.1)

  pub ordered : (es : List (K × X)) → IsStrictlySortedBy R (keys_of es) → T (is_sorted R es)
  unfolding IsStrictlySortedBy
  ordered [] h = tt
  ordered (e ∷ es) h = both _ _ (below e.0 es h.0) (ordered es h.1)

  pub looked_up : (q : K) (es : List (K × X)) → lookup (is_at (R q)) es ≡ find R q es
  looked_up q [] = refl
  looked_up q (e ∷ es) = ap (cond (is_at (R q) e.0) (Some e.1)) (looked_up q es)

  -- the map shows just its entries
  pub entries-shown : IsTotalOrder R → IsAntisymmetric R → (shown : rows.BTreeMap K X)
      → rows.IsOrdered R shown → (F : FinMap R X)
      → ((q : K) → rows.get R shown q ≡ get F q) → entries F ≡ shown.entries
  entries-shown total exact shown sorted F shows =
      same_entries R total exact _ _ (entries_sorted F) (ordered shown.entries sorted)
      (λ q. sym (get-entries F q) ∙ sym (shows q) ∙ looked_up q shown.entries)
