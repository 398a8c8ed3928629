-- What a query of one table answers.
use Rattle.std.proofs.Common.{◌≡◌, inl, inr, ℕ, List, [], ◌∷◌, map, filter, Bool, true, false, cond, arith}
use Rattle.std.proofs.Common.{unwrap_or, Option, None, refl, sym, ap, subst, subst₂, ◌∙◌, IsPermutation}
use Rattle.std.proofs.Common.{flat_map}
use Rattle.std.specs.Cmp.{tied_itself}
use Rattle.std.proofs.lemmas.List.Sorted.{Contains-permutation, IsPermutation-map, length_permutation}
use Rattle.std.specs.List.{list_all}
use Rattle.sqlite.specs.Order.{Row, value_cmp}
use Rattle.sqlite.specs.Program.{overlay}
use Rattle.sqlite.specs.Query.{Query, IsAnswer, Output, output}
use Rattle.sqlite.specs.Term.{Term, eval_all, holds}
use Rattle.sqlite.specs.Tree.{Trees, rowid}
use Rattle.sqlite_rules.proofs.ListLemmas.{all_has, contains_had, has_contained}
use Rattle.sqlite_rules.specs.Lists.{Has}
use Rattle.sqlite.proofs.Callers.{one_permutation}
use Rattle.sqlite_value.proofs.OrderLemmas.{value_cmp_total}
use Rattle.sql_tables.specs.Rows.{IsApart}
use Rattle.sql_tables.specs.Texts.{sorted_of}
use Rattle.sqlite_value.specs.declared.keys.Collation.{Collation}
use Rattle.sqlite_value.specs.declared.keys.Key.{Key}

-- the rows that pass, and what is shown of one
abbrev pub passing : Row → List Term → List Row → List Row
passing params tests rows = filter (λ r. list_all (holds (params ∷ r ∷ [])) tests) rows

abbrev pub shown_as : Row → List Term → Row → Row
shown_as params project r = eval_all project (params ∷ r ∷ [])

pub staged_are : {X Y : Type 0} (f : X → Y) (p : X → Bool) (xs : List X)
    → flat_map (λ x. cond (p x) (f x ∷ []) []) xs ≡ map f (filter p xs)
staged_are f p [] = refl
staged_are f p (x ∷ xs) = let rest = staged_are f p xs in grind (arith, rest)

-- a query with no table computed before it reads the tables as they stand
none_beside : (b : Bool) (rows : List Row) → unwrap_or (cond {A = Option (List Row)} b None None) rows ≡ rows
none_beside b rows = grind arith

pub bare : (db : Trees) (tree : ℕ) → overlay db [] tree ≡ db tree
bare db tree = none_beside _ (db tree)

-- an answer is what is shown of the rows that pass, in some order
pub answers : (db : Trees) {params : Row} {tree : ℕ} {tests project : List Term}
    {collations : List Collation} {order : List (Term × Key)} {rows : List Row}
    → IsAnswer (sorted_of tree tests project collations order) (overlay db []) params rows
    → IsPermutation (map (shown_as params project) (passing params tests (db tree))) rows
answers db {params} {tree} {tests} {project} {collations} {order} {rows} a =
    let q = sorted_of tree tests project collations order in
    subst₂ IsPermutation
    (ap (map (λ (o : Output). o.1))
    (a.distinct ∙ ap (map (output q)) (a.grouped ∙ staged_are (λ r. params ∷ r ∷ []) _ (overlay db [] tree)))
    ∙ each q (passing params tests (overlay db [] tree))
    ∙ ap (λ rs. map (shown_as params project) (passing params tests rs)) (bare db tree))
    (sym a.shown) (IsPermutation-map (λ (o : Output). o.1) a.kept a.ordered a.same)
  where
    each : (q : Query) (rs : List Row) → map (λ (o : Output). o.1)
        (map (output q) (map (λ r. params ∷ r ∷ []) rs)) ≡ map (λ r. (output q (params ∷ r ∷ [])).1) rs
    each q [] = refl
    each q (r ∷ rs) = ap (λ l. (output q (params ∷ r ∷ [])).1 ∷ l) (each q rs)

pub has_permuted : {X : Type 0} (xs ys : List X) (x : X) → IsPermutation xs ys → Has xs x → Has ys x
has_permuted xs ys x same h = has_contained ys x (Contains-permutation xs ys x same (contains_had xs x h))

empty_left : (rows : List Row) → IsPermutation [] rows → rows ≡ []
empty_left [] same = refl
empty_left (x ∷ xs) same = absurd (let e = length_permutation [] (x ∷ xs) same in cc)

-- no row passes, or one
module _ (db : Trees) {params : Row} {tree : ℕ} {tests project : List Term} {order : List (Term × Key)}
    {rows : List Row} (a : IsAnswer (sorted_of tree tests project [] order) (overlay db []) params rows) where
  pub shows_none : passing params tests (db tree) ≡ [] → rows ≡ []
  shows_none none = empty_left rows
      (subst (λ l. IsPermutation (map (shown_as params project) l) rows) none (answers db a))

  pub shows_row : (r : Row) → passing params tests (db tree) ≡ r ∷ [] → rows ≡ shown_as params project r ∷ []
  shows_row r one = one_permutation _ rows
      (subst (λ l. IsPermutation (map (shown_as params project) l) rows) one (answers db a))

pub filter_none : {X : Type 0} (p : X → Bool) (xs : List X) → ((x : X) → Has xs x → p x ≡ true → ⊥)
    → filter p xs ≡ []
filter_none p [] h = refl
filter_none p (x ∷ xs) h =
    let rest = filter_none p xs (λ y there. h y (inr there)) in let first = h x (inl refl) in
    grind (arith, rest, first)

-- the one row that passes
pub one_at : (p : Row → Bool) (rows : List Row) (r : Row) → IsApart rows → Has rows r → p r ≡ true
    → ((x : Row) → Has rows x → p x ≡ true → x ≡ r) → filter p rows ≡ r ∷ []
one_at p [] r up there is only = absurd there
one_at p (y ∷ rows) r up (inl same) is only =
    let at : p y ≡ true = ap p (sym same) ∙ is in
    let none : filter p rows ≡ [] = filter_none p rows (λ x h e. all_has _ rows x up.0 h
    (ap (λ z. value_cmp (rowid z) (rowid x)) (sym same ∙ sym (only x (inr h) e))
    ∙ tied_itself value_cmp_total (rowid x))) in
    rw (at, none, same) refl
one_at p (y ∷ rows) r up (inr later) is only =
    elim (p y) as (λ b. p y ≡ b → cond b (y ∷ filter p rows) (filter p rows) ≡ r ∷ []) [
      | true ↦ λ e. absurd (all_has _ rows r up.0 later
          (ap (λ z. value_cmp (rowid z) (rowid r)) (only y (inl refl) e)
          ∙ tied_itself value_cmp_total (rowid r)))
      | false ↦ λ e. one_at p rows r up.1 later is (λ x h. only x (inr h))
    ] refl
