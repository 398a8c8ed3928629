-- A query of all columns, with constants beside them, of tables whose rows have all columns.
use Rattle.std.proofs.Common.{◌≡◌, ◌++◌, ℕ, List, [], ◌∷◌, map, refl, sym, ap}
use Rattle.std.proofs.Common.{subst₂, ◌∙◌, IsPermutation}
use Rattle.std.proofs.lemmas.List.Sorted.{IsPermutation-map, IsPermutation-sym}
use Rattle.sqlite.specs.Order.{Row}
use Rattle.sqlite.specs.Term.{Term, eval_all, lit}
use Rattle.sqlite.specs.declared.types.Value.{Value}
use Rattle.sqlite.specs.declared.types.Value.TheVariants.{Null}
use Rattle.sqlite_rules.proofs.ProbeLemmas.{has_mapped, mapped_has}
use Rattle.sqlite_rules.specs.Lists.{Has}
use Rattle.sql_tables.proofs.Answers.{has_permuted, shown_as}
use Rattle.sql_tables.proofs.Full.{all_columns}

-- values beside a row
abbrev pub filled : List Value → Row → Row
filled vs row = row ++ vs

-- the terms that show them
abbrev pub constants : List Value → List Term
constants = map (λ v. lit v)

eval_filled : (terms : List Term) (vs : List Value) (rows : List Row)
    → eval_all (terms ++ constants vs) rows ≡ eval_all terms rows ++ vs
eval_filled [] [] rows = refl
eval_filled [] (v ∷ vs) rows = λ i. v ∷ eval_filled [] vs rows i
eval_filled (t ∷ terms) vs rows = λ i. eval_all (t ∷ []) rows ++ eval_filled terms vs rows i

map_filled : (params : Row) (terms : List Term) (vs : List Value) (rows : List Row)
    → map (shown_as params (terms ++ constants vs)) rows ≡ map (filled vs) (map (shown_as params terms) rows)
map_filled params terms vs [] = refl
map_filled params terms vs (r ∷ rows) =
    λ i. eval_filled terms vs (params ∷ r ∷ []) i ∷ map_filled params terms vs rows i

-- where a query of all columns shows the rows as they stand, one with constants shows them beside these
pub shown_filled : (params : Row) (n : ℕ) (vs : List Value) (rows : List Row)
    → map (shown_as params (all_columns n)) rows ≡ rows
    → map (shown_as params (all_columns n ++ constants vs)) rows ≡ map (filled vs) rows
shown_filled params n vs rows whole = map_filled params (all_columns n) vs rows ∙ ap (map (filled vs)) whole

-- ---- and back

-- one value beside a row
abbrev pub beside : Value → Row → Row
beside v r = r ++ v ∷ []

first_of : Row → Row
first_of [] = []
first_of (v ∷ []) = []
first_of (v ∷ w ∷ r) = v ∷ first_of (w ∷ r)

last_of : Row → Value
last_of [] = Null
last_of (v ∷ []) = v
last_of (v ∷ w ∷ r) = last_of (w ∷ r)

first_is : (v : Value) (r : Row) → first_of (beside v r) ≡ r
unfolding first_of
first_is v [] = refl
first_is v (w ∷ []) = refl
first_is v (w ∷ x ∷ r) = ap (λ l. w ∷ l) (first_is v (x ∷ r))

last_is : (v : Value) (r : Row) → last_of (beside v r) ≡ v
unfolding last_of
last_is v [] = refl
last_is v (w ∷ []) = refl
last_is v (w ∷ x ∷ r) = last_is v (x ∷ r)

firsts : (v : Value) (rows : List Row) → map first_of (map (beside v) rows) ≡ rows
firsts v [] = refl
firsts v (r ∷ rows) = λ i. first_is v r i ∷ firsts v rows i

-- What is shown of rows beside a constant are the rows of things that have it: each of them has it, and
-- without it they are the rows as they stand.
module _ {R : Type 0} (wide narrow : R → Row) (extra : R → Value)
    (parts : (x : R) → wide x ≡ beside (extra x) (narrow x)) (v : Value) (rows : List Row) (things : List R)
    (are : IsPermutation (map (beside v) rows) (map wide things)) where
  narrows : (xs : List R) → map first_of (map wide xs) ≡ map narrow xs
  narrows [] = refl
  narrows (x ∷ xs) = λ i. (ap first_of (parts x) ∙ first_is (extra x) (narrow x)) i ∷ narrows xs i

  pub stand_narrow : IsPermutation rows (map narrow things)
  stand_narrow =
      subst₂ IsPermutation (firsts v rows) (narrows things) (IsPermutation-map first_of _ _ are)

  pub each_has : (x : R) → Has things x → extra x ≡ v
  each_has x there =
      let shown = has_permuted (map wide things) (map (beside v) rows) (wide x) (IsPermutation-sym _ _ are)
      (mapped_has wide things x there) in
      let from = has_mapped (beside v) rows (wide x) shown in
      sym (last_is (extra x) (narrow x)) ∙ ap last_of (sym (parts x) ∙ from.2) ∙ last_is v from.0
