-- What a query shows of the first rows in the order of one column.
use Rattle.std.proofs.Common.{◌≡◌, ℕ, pos, ◌<◌, ◌+◌, List, [], ◌∷◌, map, take, length, get_or, arith, refl}
use Rattle.std.proofs.Common.{sym, ap}
use Rattle.std.proofs.Common.{subst, ◌∙◌, inl, inr, Equal}
use Rattle.std.proofs.lemmas.List.{get_or-map, length-map}
use Rattle.std.proofs.lemmas.List.Sorted.{IsPermutation-map, IsPermutation-sym}
use Rattle.std.specs.Cmp.{tied_itself}
use Rattle.std.specs.List.Sorted.{IsPermutation, IsSorted}
use Rattle.std.specs.Ordering.{is_lt}
use Rattle.sqlite.specs.declared.types.Value.{Value}
use Rattle.sqlite.specs.declared.types.Value.TheVariants.{Int}
use Rattle.sqlite.specs.Order.{Row, column, value_cmp}
use Rattle.sqlite.specs.Program.{overlay}
use Rattle.sqlite.specs.Query.{IsAnswer, Output, as_count, limited, output}
use Rattle.sqlite.specs.Term.{Term}
use Rattle.sqlite.specs.Tree.{Trees, rowid}
use Rattle.sqlite_catalog.proofs.LayoutLemmas.{ascending_filter}
use Rattle.sqlite_rules.proofs.ListLemmas.{all_from, all_has}
use Rattle.sqlite_rules.proofs.ProbeLemmas.{has_mapped, mapped_has}
use Rattle.sqlite_rules.specs.Lists.{Has}
use Rattle.sqlite_value.proofs.OrderLemmas.{then-Equal, value_cmp_total}
use Rattle.sql_tables.proofs.Answers.{bare, has_permuted, passing, staged_are}
use Rattle.sql_tables.proofs.RisingLists.{Rises, Untied, same_rising, sorted_rises, untied_permuted}
use Rattle.sql_tables.specs.Rows.{IsApart}
use Rattle.sql_tables.specs.Texts.{first_of}

pub mapped_twice : {X Y Z : Type 0} (f : Y → Z) (g : X → Y) (xs : List X)
    → map f (map g xs) ≡ map (λ x. f (g x)) xs
mapped_twice f g [] = refl
mapped_twice f g (x ∷ xs) = ap (λ l. f (g x) ∷ l) (mapped_twice f g xs)

-- rows whose rowids differ, and of which two that tie are one, don't tie
untied_map : (f : Row → Value) (rows : List Row) → IsApart rows
    → ((r s : Row) → Has rows r → Has rows s → value_cmp (f r) (f s) ≡ Equal → r ≡ s)
    → Untied value_cmp_total (map f rows)
untied_map f [] apart one = tt
untied_map f (r ∷ rows) apart one = (
  all_from _ (map f rows) (λ v h e.
      let it = has_mapped f rows v h in
      let same = one r it.0 (inl refl) (inr it.1) (ap (value_cmp (f r)) (sym it.2) ∙ e) in
      all_has _ rows it.0 apart.0 it.1
      (ap (λ x. value_cmp (rowid r) (rowid x)) (sym same) ∙ tied_itself value_cmp_total (rowid r))),
  untied_map f rows apart.1 (λ x y h k. one x y (inr h) (inr k)),
)

-- a value as a row
abbrev pub alone : Value → Row
alone v = v ∷ []

-- what is shown is what is sorted by
shown_listed : (os : List Output) → ((o : Output) → Has os o → o.1 ≡ alone (column o.0 0))
    → map (λ (o : Output). o.1) os ≡ map alone (map (λ (o : Output). column o.0 0) os)
shown_listed [] each = refl
shown_listed (o ∷ os) each =
    let rest = shown_listed os (λ x h. each x (inr h)) in
    let first = each o (inl refl) in grind (arith, first, rest)

module _ (db : Trees) {params : Row} {tree place many : ℕ} {tests : List Term} {rows : List Row}
    (a : IsAnswer (first_of tree tests place many) (overlay db []) params rows) where
  abbrev cell : Row → Value
  cell r = column r place

  abbrev passed : List Row
  passed = passing params tests (db tree)

  abbrev key : Output → Value
  key o = column o.0 0

  kept_is : a.kept ≡ map (λ r. (alone (cell r), alone (cell r))) passed
  kept_is =
      let q = first_of tree tests place many in
      a.distinct ∙ ap (map (output q)) (a.grouped ∙ staged_are (λ r. params ∷ r ∷ []) _ (overlay db [] tree))
      ∙ mapped_twice (output q) (λ r. params ∷ r ∷ []) (passing params tests (overlay db [] tree))
      ∙ ap (λ rs. map (λ r. output q (params ∷ r ∷ [])) (passing params tests rs)) (bare db tree)

  form : (o : Output) → Has a.ordered o → (r : Row) × Has passed r × (o ≡ (alone (cell r), alone (cell r)))
  form o h = has_mapped (λ r. (alone (cell r), alone (cell r))) passed o
      (subst (λ l. Has l o) kept_is (has_permuted a.ordered a.kept o (IsPermutation-sym _ _ a.same) h))

  abbrev cells : List Value
  cells = map key a.ordered

  permuted : IsPermutation (map cell passed) cells
  permuted = subst (λ l. IsPermutation l cells)
      (ap (map key) kept_is ∙ mapped_twice key (λ r. (alone (cell r), alone (cell r))) passed)
      (IsPermutation-map key a.kept a.ordered a.same)

  ascends : IsSorted value_cmp cells
  ascends k d from low =
      let e : Output = (alone d, alone d) in
      let next : k + 1 < length a.ordered = subst (λ n. k + 1 < n) (length-map a.ordered key) low in
      let this : k < length a.ordered = omega (arith, next) in
      (λ i. is_lt (value_cmp (get_or-map key a.ordered (k + 1) e d next i)
      (get_or-map key a.ordered k e d this i)))
      ∙ sym (ap is_lt (then-Equal (value_cmp (key (get_or a.ordered (k + 1) e))
      (key (get_or a.ordered k e)))))
      ∙ a.sorted k e from next

  -- they are the first of any list that rises and has what passes
  pub first_rows : (n : ℕ) → column params many ≡ Int (pos n) → IsApart (db tree)
      → ((r s : Row) → Has passed r → Has passed s → value_cmp (cell r) (cell s) ≡ Equal → r ≡ s)
      → (list : List Value) → Rises value_cmp_total list
      → ((v : Value) → Has list v → (r : Row) × Has passed r × (v ≡ cell r))
      → ((r : Row) → Has passed r → Has list (cell r)) → rows ≡ take n (map alone list)
  first_rows n is apart one list rises from there =
      let up = sorted_rises value_cmp_total cells ascends
      (untied_permuted value_cmp_total (map cell passed) cells
      permuted (untied_map cell passed (ascending_filter _ _ (db tree) apart) one)) in
      let same : cells ≡ list = same_rising value_cmp_total cells list up rises
      (λ v h. let at = has_mapped key a.ordered v h in let row = form at.0 at.1 in
      subst (Has list) (sym (at.2 ∙ ap key row.2)) (there row.0 row.1))
      (λ v h. let row = from v h in
      subst (Has cells) (sym row.2)
      (has_permuted (map cell passed) cells (cell row.0) permuted (mapped_has cell passed row.0 row.1))) in
      subst (λ v. rows ≡ limited (as_count v) (map (λ (o : Output). o.1) a.ordered)) is a.shown
      ∙ ap (take n) (shown_listed a.ordered (λ o h. ap (λ (x : Output). x.1) (form o h).2
      ∙ sym (ap (λ (x : Output). alone (key x)) (form o h).2)) ∙ ap (map alone) same)
