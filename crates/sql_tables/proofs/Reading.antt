-- What each kind of query shows of what the tables stand for: once for every schema and table.
use Rattle.std.proofs.Common.{◌≡◌, ◌∙◌, ◌<◌, ◌≤◌, inl, inr, ℕ, ℤ, pos, List, [], ◌∷◌, ◌++◌, Bool, true}
use Rattle.std.proofs.Common.{Option, Some, None, suc, refl, sym, ap, subst, slice_get, option_map, map}
use Rattle.std.proofs.Common.{length, IsPermutation, Ordering, Equal, ap₂, drop, take}
use Rattle.std.proofs.lemmas.List.Sorted.{IsPermutation-sym}
use Rattle.std.specs.FinMap as finite
use Rattle.std.specs.List.{list_all}
use Rattle.sqlite.specs.Effect.{IsDatabase}
use Rattle.sqlite.specs.Edit.{id_in}
use Rattle.sqlite.specs.Order.{Row, column, value_cmp}
use Rattle.sqlite.specs.Program.{overlay}
use Rattle.sqlite.specs.Query.{Query, IsAnswer}
use Rattle.sqlite.specs.Schema.{Schema}
use Rattle.sqlite.specs.State.{State, Shown}
use Rattle.sqlite.specs.Term.{Term, holds}
use Rattle.sqlite.specs.Tree.{Trees, rowid}
use Rattle.sqlite.specs.declared.types.Value.{Value}
use Rattle.sqlite.specs.declared.types.Value.TheVariants.{Null, Int}
use Rattle.sqlite_catalog.proofs.ListFacts.{filter_all}
use Rattle.sqlite_rules.proofs.ListLemmas.{has_filtered, has_kept}
use Rattle.sqlite_rules.proofs.ProbeLemmas.{has_mapped, mapped_has}
use Rattle.sqlite_rules.specs.Lists.{Has}
use Rattle.sqlite_value.specs.declared.keys.Key.{Key}
use Rattle.sqlite.proofs.Callers.{reads_as}
use Rattle.sql_tables.specs.Codes.{row_of}
use Rattle.sql_tables.specs.Rows.{AreRowsOf, one_of}
use Rattle.sql_tables.specs.Schema.{Descriptor, table_of}
use Rattle.sql_tables.specs.States.{Claim, Stands}
use Rattle.sql_tables.specs.Texts.{IsQuery, by_key, counting_of, first_of, query_of, sorted_of}
use Rattle.sql_tables.proofs.Answers.{answers, has_permuted, passing, shown_as, shows_none, shows_row}
use Rattle.sql_tables.proofs.ByKey.{Coding, at_key, found_none, found_one, passes_good, row_at}
use Rattle.sql_tables.proofs.Full.{all_columns, shown_full, shown_long}
use Rattle.sql_tables.proofs.HowMany.{as_many, counted}
use Rattle.sqlite_value.proofs.OrderLemmas.{value_cmp_total}
use Rattle.sql_tables.proofs.Limited.{alone, first_rows}
use Rattle.sql_tables.proofs.RisingLists.{Rises}
use Rattle.sql_tables.specs.Maps.{Keyed}
use Rattle.sql_tables.proofs.Keys.{coding, hits}
use Rattle.sql_tables.specs.Maps.{claim_at}
use Rattle.sql_tables.proofs.Plain.{claimed}

-- the rows are an answer to what the text means
pub answer_of : {s : Schema} {text : List ℕ} {body : Query} → IsQuery s text body → (old new : State)
    → old.now.schema ≡ s → {params : Row} {rows : List Row} → Shown text params old new rows
    → IsAnswer body (overlay old.now.trees []) params rows
answer_of {s} {text} it old new has {params} {rows} shown =
    (reads_as text params old new s has _ it.is it.plain it.unlisted rows shown).answer Null

module _ {s : Schema} {claims : List Claim} (old new : State) (it : Stands s claims old.now) (text : List ℕ)
    (params : Row) (rows : List Row) (shown : Shown text params old new rows) {K X : Type 0}
    {cmp : K → K → Ordering} {key : K → Row} {value : X → Row} (t : Keyed s cmp key value)
    (held : K → Option X)
    (said : claim_at claims t.place (old.now.trees t.table.tree)
    → AreRowsOf (row_of key value) (old.now.trees t.table.tree) held) where
  abbrev db : Trees
  db = old.now.trees

  are_rows : AreRowsOf (row_of key value) (db t.table.tree) held
  are_rows = said (claimed s.tables claims t.place (table_of t.table) db t.here it.rows)

  abbrev tested : List Term → Row → Bool
  tested tests r = list_all (holds (params ∷ r ∷ [])) tests

  -- SELECT .. WHERE key: the one row of what is at the key, or none
  pub look_up : (project : List Term) → IsQuery s text (query_of t.table.tree (by_key (suc t.more)) project)
      → (k : K) → params ≡ key k ++ [] → (show : X → Row)
      → ((m : ℤ) (x : X) → shown_as params project (Int m ∷ row_of key value k x) ≡ show x)
      → rows ≡ one_of show (held k)
  look_up project means k given show shows =
      let answer = answer_of means old new it.schema shown in
      elim (at_key (coding t.codes) are_rows (tested (by_key (suc t.more))) k (hits t.codes k params []
      given))
      as (λ _. rows ≡ one_of show (held k)) [
        | inl none ↦ shows_none db answer none.1 ∙ sym (ap (one_of show) none.0)
        | inr at ↦ shows_row db answer _ at.4 ∙ ap (λ w. w ∷ []) (shows at.2 at.0)
            ∙ sym (ap (one_of show) at.1)
      ]

  -- SELECT .. WHERE tests, with no test the whole table
  module _ (tests project : List Term) (order : List (Term × Key))
      (means : IsQuery s text (sorted_of t.table.tree tests project [] order)) (good : K → X → Bool)
      (passes : (m : ℤ) (q : K) (y : X) → tested tests (Int m ∷ row_of key value q y) ≡ good q y) where
    answer : IsAnswer (sorted_of t.table.tree tests project [] order) (overlay db []) params rows
    answer = answer_of means old new it.schema shown

    -- no pair passes
    pub shown_none : ((q : K) (y : X) → held q ≡ Some y → good q y ≡ true → ⊥) → rows ≡ []
    shown_none none =
        shows_none db answer (found_none (coding t.codes) are_rows (tested tests) good passes none)

    module _ (show : K → X → Row)
        (shows : (m : ℤ) (q : K) (y : X) → shown_as params project (Int m ∷ row_of key value q y) ≡ show q y)
      where
        -- one pair passes: it is shown, and nothing else
        pub shown_one : (k : K) (x : X) → held k ≡ Some x → good k x ≡ true
            → ((q : K) (y : X) → held q ≡ Some y → good q y ≡ true → q ≡ k) → rows ≡ show k x ∷ []
        shown_one k x is fits alone =
            let it = found_one (coding t.codes) are_rows (tested tests) good passes k x is fits alone in
            shows_row db answer _ it.2 ∙ ap (λ w. w ∷ []) (shows it.0 k x)

        abbrev these : List Row
        these = map (shown_as params project) (passing params tests (db t.table.tree))

        -- what is shown of each pair that passes, and nothing else
        pub shown_are : ((r : Row) → Has rows r → (q : K) × (y : X) × (held q ≡ Some y) × (good q y ≡ true)
            × (r ≡ show q y))
            × ((q : K) (y : X) → held q ≡ Some y → good q y ≡ true → Has rows (show q y))
        shown_are = (
          λ r h.
              let from = has_mapped (shown_as params project) (passing params tests (db t.table.tree)) r
              (has_permuted rows these r (IsPermutation-sym these rows (answers db answer)) h) in
              let kept = has_filtered (tested tests) (db t.table.tree) from.0 from.1 in
              let it =
              passes_good (coding t.codes) are_rows (tested tests) good passes from.0 kept.0 kept.1 in
              (it.0, it.1, it.2, it.3, from.2 ∙ ap (shown_as params project) it.4 ∙ shows _ it.0 it.1),
          λ q y is fits.
              let row = row_at (coding t.codes) are_rows q y is in
              let r = Int row.0 ∷ row_of key value q y in
              subst (Has rows) (shows row.0 q y) (has_permuted these rows _ (answers db answer)
              (mapped_has (shown_as params project) (passing params tests (db t.table.tree)) r
              (has_kept (tested tests) (db t.table.tree) r row.1 (passes row.0 q y ∙ fits)))),
        )

  -- SELECT a column .. WHERE tests ORDER BY it LIMIT n: the first of what rises and has what passes
  module _ (tests : List Term) (place many : ℕ)
      (means : IsQuery s text (first_of t.table.tree tests place many)) (good : K → X → Bool)
      (passes : (m : ℤ) (q : K) (y : X) → tested tests (Int m ∷ row_of key value q y) ≡ good q y)
      (cell : K → X → Value)
      (shows : (m : ℤ) (q : K) (y : X) → column (Int m ∷ row_of key value q y) place ≡ cell q y) where
    passing_pair : (r : Row) → Has (passing params tests (db t.table.tree)) r
        → Has (db t.table.tree) r × (q : K) × (y : X) × (held q ≡ Some y) × (good q y ≡ true)
        × (r ≡ Int (id_in (rowid r)) ∷ row_of key value q y)
    passing_pair r h =
        let kept = has_filtered (tested tests) (db t.table.tree) r h in
        let it = passes_good (coding t.codes) are_rows (tested tests) good passes r kept.0 kept.1 in
        (kept.0, it.0, it.1, it.2, it.3, it.4)

    pub shown_first : (n : ℕ) → column params many ≡ Int (pos n)
        → ((q p : K) (y x : X) → held q ≡ Some y → good q y ≡ true → held p ≡ Some x → good p x ≡ true
        → value_cmp (cell q y) (cell p x) ≡ Equal → q ≡ p)
        → (list : List Value) → Rises value_cmp_total list
        → ((v : Value) → Has list v → (q : K) × (y : X) × (held q ≡ Some y) × (good q y ≡ true)
        × (v ≡ cell q y))
        → ((q : K) (y : X) → held q ≡ Some y → good q y ≡ true → Has list (cell q y))
        → rows ≡ take n (map alone list)
    shown_first n is one list rises from there =
        first_rows db (answer_of means old new it.schema shown) n is are_rows.apart
        (λ r z h k tie.
        let a = passing_pair r h in
        let b = passing_pair z k in
        let same = one a.1 b.1 a.2 b.2 a.3 a.4 b.3 b.4
        (ap₂ value_cmp (sym (shows _ a.1 a.2) ∙ ap (λ x. column x place) (sym a.5))
        (sym (shows _ b.1 b.2) ∙ ap (λ x. column x place) (sym b.5)) ∙ tie) in
        are_rows.once r z a.1 a.2 b.2 a.0 b.0 (ap (drop 1) a.5)
        (ap (drop 1) b.5 ∙ ap (λ q. row_of key value q b.2) (sym same)))
        list rises
        (λ v h.
        let p = from v h in
        let row = row_at (coding t.codes) are_rows p.0 p.1 p.2 in (
          Int row.0 ∷ row_of key value p.0 p.1,
          has_kept (tested tests) (db t.table.tree) _ row.1 (passes row.0 p.0 p.1 ∙ p.3),
          p.4 ∙ sym (shows row.0 p.0 p.1),
        ))
        (λ r h. let a = passing_pair r h in
        subst (Has list) (sym (shows _ a.1 a.2) ∙ ap (λ x. column x place) (sym a.5)) (there a.1 a.2 a.3 a.4))

-- SELECT count(*): how many keys the map has
pub how_many : {s : Schema} (old new : State) → old.now.schema ≡ s → {text : List ℕ} {rows : List Row}
    (tree : ℕ) → IsQuery s text (counting_of tree) → Shown text [] old new rows → {K X Y : Type 0}
    {cmp : K → K → Ordering} {encode : K → X → Row} (c : Coding cmp encode) (f : Y → X)
    (m : finite.FinMap cmp Y)
    → AreRowsOf encode (old.now.trees tree) (λ k. option_map f (finite.get m k))
    → finite.len m ≤ 9223372036854775807 → rows ≡ (Int (pos (finite.len m)) ∷ []) ∷ []
how_many old new has {rows = rows} tree means shown c f m are few =
    let many = as_many c f (old.now.trees tree) m are in
    counted old.now.trees tree [] rows (answer_of means old new has shown)
    (subst (λ n. n ≤ 9223372036854775807) (sym many) few)
    ∙ ap (λ n. (Int (pos n) ∷ []) ∷ []) many

-- SELECT of these columns, in any order: what they show of each row of a table, though nothing is known of it
pub reads_all : (s : Schema) (old new : State) → old.now.schema ≡ s
    → (text : List ℕ) (rows : List Row) (tree : ℕ) (project : List Term) (order : List (Term × Key))
    → IsQuery s text (sorted_of tree [] project [] order) → Shown text [] old new rows
    → IsPermutation (map (shown_as [] project) (old.now.trees tree)) rows
reads_all s old new has text rows tree project order means shown =
    subst (λ l. IsPermutation (map (shown_as [] project) l) rows)
    (filter_all (λ r. true) (old.now.trees tree) (λ x there. refl))
    (answers old.now.trees (answer_of means old new has shown))

-- SELECT of all columns: the rows as they stand, in a sound database
module _ (s : Schema) (old new : State) (has : old.now.schema ≡ s) (sound : IsDatabase old.now)
    (text : List ℕ) (rows : List Row) (d : Descriptor) (place : ℕ)
    (here : slice_get s.tables place ≡ Some (table_of d)) (order : List (Term × Key))
    (means : IsQuery s text (sorted_of d.tree [] (all_columns (length d.columns)) [] order))
    (shown : Shown text [] old new rows) (ordinary : d.rowid ≡ None) where
  -- where each row is long enough
  pub reads_long : ((r : Row) → Has (old.now.trees d.tree) r → length d.columns < length r)
      → IsPermutation (old.now.trees d.tree) rows
  reads_long long = subst (λ l. IsPermutation l rows)
      (shown_long s old.now has sound d ordinary place here [] long)
      (reads_all s old new has text rows d.tree _ order means shown)

  -- where no column may be NULL
  pub reads_whole : 0 < length d.columns → list_all (λ c. c.not_null) d.columns ≡ true
      → IsPermutation (old.now.trees d.tree) rows
  reads_whole some always = subst (λ l. IsPermutation l rows)
      (shown_full s old.now has sound d ordinary place here [] some always)
      (reads_all s old new has text rows d.tree _ order means shown)
