-- How many rows a table has.
use Rattle.std.proofs.Common.{◌≡◌, ℕ, inl, inr, ◌+◌, ◌≤◌, min, pos, List, [], ◌∷◌, map, filter, suc, length}
use Rattle.std.proofs.Common.{drop, false, cond, Option, Some, None, is_some, option_map, refl, sym, ap}
use Rattle.std.proofs.Common.{subst, ◌∙◌, arith, IsPermutation, flat_map, Ordering}
use Rattle.std.specs.Cmp.{tied_itself}
use Rattle.std.proofs.lemmas.List.Sorted.{length_permutation}
use Rattle.std.specs.FinMap as map
use Rattle.sqlite.specs.Order.{Row, value_cmp}
use Rattle.sqlite.specs.Program.{overlay}
use Rattle.sqlite.specs.Query.{IsAnswer, Output, output}
use Rattle.sqlite.specs.Term.{eval, holds, lit}
use Rattle.sqlite.specs.Tree.{Trees, rowid}
use Rattle.sqlite_sql.specs.Group.{Aggregate, Grouping, IsSummary, value_over}
use Rattle.sqlite_sql.specs.declared.aggregate.AggregateOp.TheVariants.{CountRows}
use Rattle.sqlite.specs.Collation.TheVariants.{Binary}
use Rattle.std.specs.List.{AllZip, list_all}
use Rattle.std.proofs.lemmas.List.{length-map}
use Rattle.sqlite.specs.declared.types.Value.TheVariants.{Null, Int}
use Rattle.sqlite_rules.proofs.ListLemmas.{all_has}
use Rattle.sqlite_value.proofs.OrderLemmas.{value_cmp_total}
use Rattle.sqlite.proofs.Callers.{one_permutation}
use Rattle.sql_tables.specs.Rows.{AreRowsOf, put}
use Rattle.sql_tables.proofs.ByKey.{left_over, same_held, Coding, eq_exact, eq_itself}
use Rattle.sql_tables.specs.Texts.{counting_of}
use Rattle.sql_tables.proofs.Answers.{bare}

module _ {K X Y : Type 0} {cmp : K → K → Ordering} {encode : K → X → Row} (c : Coding cmp encode)
    (f : Y → X) where
  abbrev at_keys : map.FinMap cmp Y → K → Option X
  at_keys m q = option_map f (map.get m q)

  gone : (m : map.FinMap cmp Y) (k q : K) → at_keys (map.remove m k) q ≡ put cmp (at_keys m) k None q
  gone m k q = rw (map.get-remove c.total m k q) (grind arith)

  -- the other rows are those of the map without the key of the first
  rest_are : (r : Row) (rows : List Row) (m : map.FinMap cmp Y) (k : K) (x : X) → drop 1 r ≡ encode k x
      → AreRowsOf encode (r ∷ rows) (at_keys m) → AreRowsOf encode rows (at_keys (map.remove m k))
  rest_are r rows m k x is are =
      same_held (left_over c are k rows are.apart.1 (λ s there. inr there)
      (λ s y there e.
      let same : r ≡ s = are.once r s k x y (inl refl) (inr there) is e in
      all_has _ rows s are.apart.0 there
      (ap (λ z. value_cmp (rowid z) (rowid s)) same ∙ tied_itself value_cmp_total (rowid s)))
      (λ s q y there e other. elim there [
        | inl first ↦ absurd (other (c.key q k y x (sym e ∙ ap (drop 1) first ∙ is)))
        | inr later ↦ later
      ])) (gone m k)

  none_left : (o : Option Y) → ((x : X) → option_map f o ≡ Some x → ⊥) → o ≡ None
  none_left None h = refl
  none_left (Some y) h = absurd (h (f y) refl)

  held : (o : Option Y) (x : X) → option_map f o ≡ Some x → (y : Y) × (o ≡ Some y)
  held o x e = grind arith

  put_back : (m : map.FinMap cmp Y) (k : K) (x : Y) → map.get m k ≡ Some x
      → m ≡ map.insert (map.remove m k) k x
  put_back m k x is = map.same_map c.total c.exact m (map.insert (map.remove m k) k x) (λ q.
      let exact = eq_exact c q k in
      rw (map.get-insert c.total (map.remove m k) k x q, map.get-remove c.total m k q) (grind (arith, exact)))

  -- a table has as many rows as the map has keys
  pub as_many : (rows : List Row) (m : map.FinMap cmp Y)
      → AreRowsOf encode rows (at_keys m) → length rows ≡ map.len m
  as_many [] m are =
      sym (ap map.len
      (map.same_map c.total c.exact m map.empty
      (λ q. none_left (map.get m q) (λ x h. let it = are.complete q x h in absurd it.1)
      ∙ sym (map.get-empty cmp q))) ∙ map.len-empty cmp Y)
  as_many (r ∷ rows) m are =
      let it = are.sound r (inl refl) in
      let rest = as_many rows (map.remove m it.0) (rest_are r rows m it.0 it.1 it.2 are) in
      let there = held (map.get m it.0) it.1 it.3 in
      let back = put_back m it.0 there.0 there.1 in
      let more : map.len (map.insert (map.remove m it.0) it.0 there.0) ≡ map.len (map.remove m it.0) + 1 =
      map.len-insert c.total (map.remove m it.0) it.0 there.0
      ∙ ap (λ (o : Option Y). cond (is_some o) (map.len (map.remove m it.0))
      (map.len (map.remove m it.0) + 1))
      (map.get-remove c.total m it.0 it.0
      ∙ ap (λ b. cond b None (map.get m it.0)) (eq_itself c it.0)) in
      let all : map.len m ≡ map.len (map.remove m it.0) + 1 = ap map.len back ∙ more in
      omega (arith, rest, all)

-- what the query shows of rows
one_zipped : {A B : Type 0} (R : A → B → Type 0) (a : A) (bs : List B) → AllZip R (a ∷ []) bs
    → (b : B) × (bs ≡ b ∷ []) × R a b
one_zipped R a [] h = absurd h
one_zipped R a (b ∷ []) h = (b, refl, h.0)
one_zipped R a (b ∷ other ∷ more) h = absurd h.1

matched : (params : Row) (rows : List Row)
    → length (flat_map (λ (r : Row). (params ∷ r ∷ []) ∷ []) rows) ≡ length rows
matched params [] = refl
matched params (r ∷ rows) = ap suc (matched params rows)

abbrev counting : Aggregate
counting = record { op = CountRows; distinct = false; collation = Binary; argument = lit Null }

abbrev grouping : Grouping
grouping = record { keys = []; collations = []; aggregates = counting ∷ []; having = [] }

same_some : {X : Type 0} {x y : X} → ◌≡◌ {A = Option X} (Some x) (Some y) → x ≡ y
same_some e = cc

-- SELECT count(*): the one row of the number
pub counted : (db : Trees) (tree : ℕ) (params : Row) (rows : List Row)
    → IsAnswer (counting_of tree) (overlay db []) params rows → length (db tree) ≤ 9223372036854775807
    → rows ≡ (Int (pos (length (db tree))) ∷ []) ∷ []
counted db tree params rows a few =
    let s = a.grouped in
    let order = s.grouping.0 in
    let one = one_zipped (IsSummary grouping) order s.rows
    (subst (λ g. AllZip (IsSummary grouping) g s.rows) s.grouping.2 s.summaries) in
    let value = one_zipped (λ a v. value_over order a ≡ Some v) counting one.2.0 one.2.1 in
    let size : length (map (eval (lit Null)) order) ≡ length (db tree) = length-map order (eval (lit Null))
    ∙ length_permutation _ order s.grouping.1 ∙ matched params (overlay db [] tree)
    ∙ ap length (bare db tree) in
    let number : value.0 ≡ Int (pos (length (db tree))) =
    same_some (sym value.2) ∙ ap (λ n. Int (pos (min n 9223372036854775807))) size
    ∙ ap (λ n. Int (pos n))
    (let is : min (length (db tree)) 9223372036854775807 ≡ length (db tree) = omega (arith, few) in is) in
    let row : s.rows ≡ (Int (pos (length (db tree))) ∷ []) ∷ [] = one.1
    ∙ ap (λ r. r ∷ []) (one.2.2 ∙ value.1 ∙ ap (λ v. v ∷ []) number) in
    let staged : a.staged ≡ (params ∷ (Int (pos (length (db tree))) ∷ []) ∷ []) ∷ [] = s.having
    ∙ ap (λ rs. filter (λ env. list_all (holds env) []) (map (λ r. params ∷ r ∷ []) rs)) row in
    let kept = a.distinct ∙ ap (map (output (counting_of tree))) staged in
    let ordered = one_permutation _ a.ordered (subst (λ l. IsPermutation l a.ordered) kept a.same) in
    a.shown ∙ ap (map (λ (o : Output). o.1)) ordered
