-- What each kind of statement makes, and each kind of query shows, of a table whose key is its rowid.
use Rattle.std.proofs.Common.{◌≡◌, ◌⊎◌, inl, inr, ℕ, ℤ, List, [], ◌∷◌, map, drop, length, ◌/◌, Bool, true}
use Rattle.std.proofs.Common.{Option, Some, None, refl, sym, ap, subst, ◌∙◌, int_cmp, slice_get}
use Rattle.std.proofs.lemmas.List.Sorted.{IsPermutation-sym}
use Rattle.std.specs.List.{list_all}
use Rattle.std.specs.Ordering.{eq_by_cmp}
use Rattle.sqlite.specs.Cast.{cast_row}
use Rattle.sqlite.specs.Edit.{id_in, next_rowid, put_all, with_rowid, without_all}
use Rattle.sqlite.specs.Effect.{Database, IsDatabase, value_rows}
use Rattle.sqlite.specs.Order.{Row, column}
use Rattle.sqlite.specs.Program.{overlay}
use Rattle.sqlite.specs.Query.{IsAnswer}
use Rattle.sqlite.specs.Rowids.TheVariants.{Chosen}
use Rattle.sqlite.specs.Schema.{Schema}
use Rattle.sqlite.specs.State.{State, Shown}
use Rattle.sqlite.specs.Term.{Term, col, holds}
use Rattle.sqlite.specs.Tree.{Trees, rowid}
use Rattle.sqlite.specs.declared.types.Value.TheVariants.{Null, Int}
use Rattle.sqlite_rules.proofs.ListLemmas.{has_filtered, has_kept}
use Rattle.sqlite_rules.proofs.ProbeLemmas.{has_mapped, mapped_has}
use Rattle.sqlite_rules.specs.Calls.{ids_of}
use Rattle.sqlite_rules.specs.Lists.{Has}
use Rattle.sqlite_value.specs.declared.keys.Key.{Key}
use Rattle.sql_tables.specs.Codes.{fit}
use Rattle.sql_tables.specs.Rows.{AreRowsById, one_of, put}
use Rattle.sql_tables.specs.Schema.{Descriptor, table_of, is_plain}
use Rattle.sql_tables.specs.States.{Claim, Stands, Within, at_place}
use Rattle.sql_tables.specs.Texts.{IsQuery, IsWrite, by_id, delete, insert_or_ignore, query_of}
use Rattle.sql_tables.specs.Texts.{sorted_of}
use Rattle.sql_tables.specs.Texts.{update}
use Rattle.sql_tables.proofs.Answers.{answers, has_permuted, passing, shown_as, shows_none, shows_row}
use Rattle.sql_tables.proofs.Keys.{cast_row_fits, cast_row_new}
use Rattle.sql_tables.proofs.KeyTests.{and_true, int_eq}
use Rattle.sql_tables.specs.Maps.{claim_at}
use Rattle.sql_tables.proofs.Plain.{claimed}
use Rattle.sql_tables.proofs.Reading.{answer_of}
use Rattle.sql_tables.proofs.RowsById.{at_id, found_one_id, free_id, inserted_id, passes_id}
use Rattle.sql_tables.proofs.RowsById.{removed_id, replaced_id, same_put}
use Rattle.sql_tables.proofs.Statements.{Ran, written}
use Rattle.sql_tables.proofs.Steps.{Came, Wrote, delete_wrote, ignore_wrote, update_wrote}

-- a table of a schema whose key is its rowid
pub record ById {X : Type 0} (s : Schema) (value : X → Row) : Type 0 where
  pub table : Descriptor
  pub place : ℕ
  pub here : slice_get s.tables place ≡ Some (table_of table)
  pub fits : (x : X) → fit table.columns (value x) ≡ true

abbrev tested : Row → List Term → Row → Bool
tested params tests r = list_all (holds (params ∷ r ∷ [])) tests

-- the test of an id passes its row alone
by_id_is : {X : Type 0} (value : X → Row) (params : Row) (p : ℕ) (n : ℤ) → column params p ≡ Int n
    → (m : ℤ) (x : X) → tested params (by_id p) (Int m ∷ value x) ≡ eq_by_cmp int_cmp m n
by_id_is value params p n stands m x = rw (stands, int_eq m n) (and_true _)

module _ {s : Schema} (fine : is_plain s ≡ true) {claims : List Claim} {base : Database} {old new : State}
    {text : List ℕ} {params : Row} (run : Ran s claims base old new text params) {X : Type 0}
    {value : X → Row} (t : ById s value) (held : ℤ → Option X)
    (said : claim_at claims t.place (old.now.trees t.table.tree)
    → AreRowsById value (old.now.trees t.table.tree) held) where
  abbrev db : Trees
  db = old.now.trees

  abbrev were_rows : AreRowsById value (db t.table.tree) held
  were_rows = said (claimed s.tables claims t.place (table_of t.table) db t.here run.within.stands.rows)

  -- the map with this at the id
  abbrev pub PutId : ℤ → Option X → Claim
  PutId n o rows = AreRowsById value rows (put int_cmp held n o)

  -- the table has this at the id, and the others are as they were
  abbrev pub IsPutId : ℤ → Option X → Type 0
  IsPutId n o = Within s (at_place claims t.place (PutId n o)) base new

  put_ids : (n : ℤ) (o : Option X) → IsDatabase new.now → (ids : List ℤ) (news : List Row)
      → Wrote s t.table.tree ids news db new.now
      → PutId n o (put_all (without_all (db t.table.tree) ids) news) → IsPutId n o
  put_ids n o sound ids news = written fine run sound t.table t.place t.here ids news (PutId n o)

  -- the id that the database gives to a new row
  abbrev pub new_id : ℤ
  new_id = next_rowid (db t.table.tree)

  -- INSERT OR IGNORE with NULL for the id: a row came, whose id was free and is now the last rowid, or
  -- nothing changed
  pub try_id : (x : X) (width : ℕ) (terms : List Term)
      → IsWrite s text (insert_or_ignore t.place width terms)
      → value_rows params width (length terms / width) terms ≡ (Null ∷ value x) ∷ []
      → ((run.count ≡ 1) × (held new_id ≡ None) × IsPutId new_id (Some x) × (new.last_rowid ≡ new_id))
      ⊎ ((run.count ≡ 0)
      × Within s (at_place claims t.place (λ rows. AreRowsById value rows held)) base new)
  try_id x width terms it one =
      let did = ignore_wrote s fine t.table text params old new run.count t.place t.here
      run.within.stands.schema run.ran.0 terms width (Null ∷ value x) it one in
      let with_id = λ (r : Row). with_rowid Chosen (db t.table.tree) r in
      let came = subst (λ r. Came s t.table r db new run.count)
      (ap with_id (cast_row_new t.table (value x) (t.fits x))) did.0 in
      let fits = cast_row_fits t.table new_id (value x) (t.fits x) in
      elim came as (λ _. ((run.count ≡ 1) × (held new_id ≡ None) × IsPutId new_id (Some x)
      × (new.last_rowid ≡ new_id))
      ⊎ ((run.count ≡ 0)
      × Within s (at_place claims t.place (λ rows. AreRowsById value rows held)) base new)) [
        | inl it ↦
            let now = subst (λ r. Wrote s t.table.tree [] (r ∷ []) db new.now) fits it.0 in
            inl (
              it.1,
              free_id were_rows new_id (value x) now.fresh,
              put_ids new_id (Some x) did.1 [] _ now (inserted_id were_rows new_id x now.fresh),
              it.2 ∙ ap (λ r. id_in (rowid r)) fits,
            )
        | inr it ↦ inr (
          it.1,
          written fine run did.1 t.table t.place t.here [] [] (λ rows. AreRowsById value rows held) it.0
              were_rows,
        )
      ]

  module _ (p : ℕ) (n : ℤ) (stands : column params p ≡ Int n) where
    -- UPDATE .. WHERE id = ?, of a row that is there
    pub change_id : (set : List Term) → IsWrite s text (update t.place t.table.tree (by_id p) set)
        → (was x : X) → held n ≡ Some was
        → shown_as params (col 1 0 ∷ col 1 0 ∷ set) (Int n ∷ value was) ≡ Int n ∷ Int n ∷ value x
        → IsPutId n (Some x)
    change_id set it was x is shows =
        let did = update_wrote s fine t.table text params old new run.count t.place t.here
        run.within.stands.schema run.ran.0 _ it in
        let cast = cast_row (table_of t.table) in
        elim (at_id were_rows (tested params (by_id p)) n (by_id_is value params p n stands))
        as (λ _. IsPutId n (Some x)) [
          | inl none ↦ let clash = sym is ∙ none.0 in absurd cc
          | inr at ↦
              let both : Some at.0 ≡ Some was = sym at.1 ∙ is in
              let one : at.0 ≡ was = cc in
              let all : did.0 ≡ (Int n ∷ Int n ∷ value x) ∷ [] = shows_row db did.1 _ at.2
              ∙ ap (λ y. shown_as params (col 1 0 ∷ col 1 0 ∷ set) (Int n ∷ value y) ∷ []) one
              ∙ ap (λ r. r ∷ []) shows in
              let now = subst (λ r. Wrote s t.table.tree (n ∷ []) (r ∷ []) db new.now)
              (cast_row_fits t.table n (value x) (t.fits x))
              (subst (λ l. Wrote s t.table.tree (ids_of l) (map (λ r. cast (drop 1 r)) l) db new.now) all
              did.2) in
              put_ids n (Some x) did.3 (n ∷ []) _ now (replaced_id were_rows n x now.fresh)
        ]

    -- DELETE .. WHERE id = ?
    pub drop_id : IsWrite s text (delete t.place t.table.tree (by_id p)) → IsPutId n None
    drop_id it =
        let did = delete_wrote s fine t.table text params old new run.count t.place t.here
        run.within.stands.schema run.ran.0 _ it in
        let now = λ (l : List Row) (e : did.0 ≡ l).
        subst (λ l. Wrote s t.table.tree (ids_of l) [] db new.now) e did.2 in
        elim (at_id were_rows (tested params (by_id p)) n (by_id_is value params p n stands))
        as (λ _. IsPutId n None) [
          | inl none ↦ put_ids n None did.3 [] [] (now [] (shows_none db did.1 none.1))
              (same_put were_rows n None none.0)
          | inr at ↦ put_ids n None did.3 (n ∷ []) [] (now _ (shows_row db did.1 _ at.2))
              (removed_id were_rows n)
        ]

module _ {s : Schema} {claims : List Claim} (old new : State) (it : Stands s claims old.now) (text : List ℕ)
    (params : Row) (rows : List Row) (shown : Shown text params old new rows) {X : Type 0} {value : X → Row}
    (t : ById s value) (held : ℤ → Option X)
    (said : claim_at claims t.place (old.now.trees t.table.tree)
    → AreRowsById value (old.now.trees t.table.tree) held) where
  abbrev tree : List Row
  tree = old.now.trees t.table.tree

  are_rows : AreRowsById value tree held
  are_rows = said (claimed s.tables claims t.place (table_of t.table) old.now.trees t.here it.rows)

  -- SELECT .. WHERE id = ?: the one row of what has the id, or none
  pub look_up_id : (p : ℕ) (project : List Term) → IsQuery s text (query_of t.table.tree (by_id p) project)
      → (n : ℤ) → column params p ≡ Int n → (show : X → Row)
      → ((x : X) → shown_as params project (Int n ∷ value x) ≡ show x) → rows ≡ one_of show (held n)
  look_up_id p project means n stands show shows =
      let answer = answer_of means old new it.schema shown in
      elim (at_id are_rows (tested params (by_id p)) n (by_id_is value params p n stands))
      as (λ _. rows ≡ one_of show (held n)) [
        | inl none ↦ shows_none old.now.trees answer none.1 ∙ sym (ap (one_of show) none.0)
        | inr at ↦ shows_row old.now.trees answer _ at.2 ∙ ap (λ w. w ∷ []) (shows at.0)
            ∙ sym (ap (one_of show) at.1)
      ]

  -- SELECT .. WHERE tests, with no test the whole table
  module _ (tests project : List Term) (order : List (Term × Key))
      (means : IsQuery s text (sorted_of t.table.tree tests project [] order)) (good : ℤ → X → Bool)
      (passes : (n : ℤ) (x : X) → tested params tests (Int n ∷ value x) ≡ good n x) (show : ℤ → X → Row)
      (shows : (n : ℤ) (x : X) → shown_as params project (Int n ∷ value x) ≡ show n x) where
    answer : IsAnswer (sorted_of t.table.tree tests project [] order) (overlay old.now.trees []) params rows
    answer = answer_of means old new it.schema shown

    abbrev these : List Row
    these = map (shown_as params project) (passing params tests tree)

    -- each row shown is that of an id that passes
    pub ids_shown : (r : Row) → Has rows r
        → (n : ℤ) × (x : X) × (held n ≡ Some x) × (good n x ≡ true) × (r ≡ show n x)
    ids_shown r h =
        let from = has_mapped (shown_as params project) (passing params tests tree) r
        (has_permuted rows these r (IsPermutation-sym these rows (answers old.now.trees answer)) h) in
        let kept = has_filtered (tested params tests) tree from.0 from.1 in
        let at = passes_id are_rows (tested params tests) good passes from.0 kept.0 kept.1 in
        (at.0, at.1, at.2, at.3, from.2 ∙ ap (shown_as params project) at.4 ∙ shows at.0 at.1)

    -- and each id that passes is shown
    pub shown_ids : (n : ℤ) (x : X) → held n ≡ Some x → good n x ≡ true → Has rows (show n x)
    shown_ids n x is fits =
        subst (Has rows) (shows n x) (has_permuted these rows _ (answers old.now.trees answer)
        (mapped_has (shown_as params project) (passing params tests tree) (Int n ∷ value x)
        (has_kept (tested params tests) tree _ (are_rows.complete n x is) (passes n x ∙ fits))))

    -- where at most one id passes, no row is shown, or its row alone
    pub shown_once : ((n m : ℤ) (x y : X) → held n ≡ Some x → good n x ≡ true → held m ≡ Some y
        → good m y ≡ true → n ≡ m)
        → ((rows ≡ []) × ((n : ℤ) (x : X) → held n ≡ Some x → good n x ≡ true → ⊥))
        ⊎ ((n : ℤ) × (x : X) × (held n ≡ Some x) × (good n x ≡ true) × (rows ≡ show n x ∷ []))
    shown_once alone = elim rows as (λ l. rows ≡ l
        → ((rows ≡ []) × ((n : ℤ) (x : X) → held n ≡ Some x → good n x ≡ true → ⊥))
        ⊎ ((n : ℤ) × (x : X) × (held n ≡ Some x) × (good n x ≡ true) × (rows ≡ show n x ∷ []))) [
          | [] ↦ λ none. inl (none, λ n x is fits. subst (λ l. Has l (show n x)) none (shown_ids n x is fits))
          | r ∷ more ↦ λ some.
              let at = ids_shown r (subst (λ l. Has l r) (sym some) (inl refl)) in
              let one = found_one_id are_rows (tested params tests) good passes at.0 at.1 at.2 at.3
              (λ m y is fits. alone m at.0 y at.1 is fits at.2 at.3) in
              inr (
                at.0,
                at.1,
                at.2,
                at.3,
                shows_row old.now.trees answer _ one ∙ ap (λ w. w ∷ []) (shows at.0 at.1),
              )
        ] refl
