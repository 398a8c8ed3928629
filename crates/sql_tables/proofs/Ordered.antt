-- The order of what a query shows.
use Rattle.std.proofs.Common.{◌≡◌, ℕ, ◌<◌, ◌+◌, List, [], ◌∷◌, map, length, arith, refl, sym, ap, subst}
use Rattle.std.proofs.Common.{◌∙◌, false}
use Rattle.std.proofs.Common.{get_or}
use Rattle.std.proofs.lemmas.List.{get_or_default, get_or-map, length-map}
use Rattle.std.proofs.lemmas.List.Sorted.{IsPermutation-sym}
use Rattle.std.specs.List.Sorted.{IsSortedByKey}
use Rattle.std.specs.Ordering.{is_lt}
use Rattle.sqlite.specs.Order.{Row, column, value_cmp}
use Rattle.sqlite.specs.Program.{overlay}
use Rattle.sqlite.specs.Query.{Query, IsAnswer, Output, output, output_cmp}
use Rattle.sqlite.specs.Term.{Term, col}
use Rattle.sqlite.specs.Tree.{Trees, rowid}
use Rattle.sqlite_rules.proofs.ProbeLemmas.{has_mapped}
use Rattle.sqlite_rules.proofs.ListLemmas.{has_at}
use Rattle.sqlite_rules.specs.Lists.{Has}
use Rattle.sqlite_value.proofs.OrderLemmas.{then-Equal}
use Rattle.sql_tables.proofs.Answers.{has_permuted}
use Rattle.sql_tables.specs.Texts.{ordered_by, sorted_of}

-- what a row is sorted by, and what it shows
abbrev key : Output → Row
key o = o.0

abbrev shown : Output → Row
shown o = o.1

abbrev asked : ℕ → List Term → Query
asked tree more = sorted_of tree [] (col 1 0 ∷ more) [] (ordered_by (0 ∷ []))

-- ORDER BY rowid: the rows ascend by the rowid, where it is shown first
module _ (db : Trees) {params : Row} {tree : ℕ} {more : List Term} {rows : List Row}
    (a : IsAnswer (asked tree more) (overlay db []) params rows) where
  -- what a row is sorted by is what it shows first
  first : (o : Output) → Has a.ordered o → key o ≡ rowid (shown o) ∷ []
  first o h =
      let from = has_mapped (output (asked tree more)) a.staged o
      (subst (λ l. Has l o) a.distinct (has_permuted a.ordered a.kept o (IsPermutation-sym _ _ a.same) h)) in
      subst (λ (x : Output). key x ≡ rowid (shown x) ∷ []) (sym from.2) refl

  there : (k : ℕ) (d : Output) → k < length a.ordered → Has a.ordered (get_or a.ordered k d)
  there k d low = has_at a.ordered k (get_or a.ordered k d) low (get_or_default a.ordered k d _ low)

  below : (x y : Output) → key x ≡ rowid (shown x) ∷ [] → key y ≡ rowid (shown y) ∷ []
      → is_lt (output_cmp (asked tree more) x y) ≡ false
      → is_lt (value_cmp (rowid (shown x)) (rowid (shown y))) ≡ false
  below x y x_first y_first none =
      sym (λ i. is_lt (value_cmp (column (x_first i) 0) (column (y_first i) 0)))
      ∙ ap is_lt (sym (then-Equal (value_cmp (column (key x) 0) (column (key y) 0)))) ∙ none

  ascends : IsSortedByKey rowid value_cmp (map shown a.ordered)
  ascends k d from low =
      let e : Output = ([], d) in
      let next : k + 1 < length a.ordered = subst (λ n. k + 1 < n) (length-map a.ordered shown) low in
      let this : k < length a.ordered = omega (arith, next) in
      (λ i. is_lt (value_cmp (rowid (get_or-map shown a.ordered (k + 1) e d next i))
      (rowid (get_or-map shown a.ordered k e d this i))))
      ∙ below (get_or a.ordered (k + 1) e) (get_or a.ordered k e) (first _ (there (k + 1) e next))
      (first _ (there k e this)) (a.sorted k e from next)

  pub by_rowid : IsSortedByKey rowid value_cmp rows
  by_rowid = subst (IsSortedByKey rowid value_cmp) (sym a.shown) ascends
