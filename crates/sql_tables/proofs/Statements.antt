-- What each kind of statement makes of what the tables stand for, inside a transaction: once for every schema
-- and table.
use Rattle.std.proofs.Common.{◌≡◌, ◌⊎◌, inl, inr, ℕ, ℤ, pos, suc, List, [], ◌∷◌, ◌++◌, drop, map, true, cond}
use Rattle.std.proofs.Common.{length, ◌/◌, Option, Some, None, Ok, refl, sym, ap, subst, ◌∙◌, ◌+◌, ◌<◌, ◌^◌}
use Rattle.std.proofs.Common.{nat_lt, arith, slice_get, is_eq, int_cmp, Ordering}
use Rattle.std.proofs.lemmas.Bool.{and_parts}
use Rattle.std.proofs.lemmas.Bool.Decides.{nat_tests}
use Rattle.std.specs.Cmp.{tied_itself, int_cmp_total}
use Rattle.std.specs.FinMap.{int_cmp-IsAntisymmetric}
use Rattle.std.specs.List.{list_all}
use Rattle.sqlite.specs.Cast.{cast_row}
use Rattle.sqlite.specs.Command.TheVariants.{InsertOr}
use Rattle.sqlite.specs.Edit.{id_in, next_rowid, numbered, put_all, with_rowid, without_all}
use Rattle.sqlite.specs.Effect.{Database, IsDatabase, value_rows}
use Rattle.sqlite.specs.Ops.{binary, int_or, real_arith, from_int}
use Rattle.sqlite.specs.Order.{Row, column, value_cmp}
use Rattle.sqlite.specs.Query.{Query}
use Rattle.sqlite.specs.Rowids.TheVariants.{Chosen}
use Rattle.sqlite.specs.Rows.{shown}
use Rattle.sqlite.specs.Schema.{Schema}
use Rattle.sqlite.specs.Source.TheVariants.{Values}
use Rattle.sqlite.specs.State.{State, ExecutesInside}
use Rattle.sqlite.specs.Term.{Term, col, holds}
use Rattle.sqlite.specs.Tree.{Trees, rowid}
use Rattle.sqlite.specs.View.{is_int}
use Rattle.sqlite.specs.declared.types.Value.TheVariants.{Null, Int}
use Rattle.sqlite_rules.proofs.ListLemmas.{all_has}
use Rattle.sqlite_rules.proofs.TableLemmas.{has_put, int_is, put_all_keeps}
use Rattle.sqlite_rules.specs.Calls.{ids_of}
use Rattle.sqlite_rules.specs.Keys.{conflicts}
use Rattle.sqlite_rules.specs.Lists.{Has}
use Rattle.sqlite_schema.specs.declared.command.Conflict.TheVariants.{Abort}
use Rattle.sqlite_sql.specs.declared.ops.ArithOp.TheVariants.{Add}
use Rattle.sqlite_sql.specs.declared.ops.BinaryOp.TheVariants.{Arith}
use Rattle.sqlite_value.proofs.OrderLemmas.{value_cmp_total}
use Rattle.sql_tables.specs.Codes.{fit, row_of}
use Rattle.sql_tables.specs.Rows.{AreRowsOf, put}
use Rattle.sql_tables.specs.Schema.{Descriptor, table_of, columns_to, is_plain}
use Rattle.sql_tables.specs.States.{Claim, StandsIn, Within, at_place}
use Rattle.sql_tables.specs.Texts.{IsWrite, insert, upsert, update, delete, met_update}
use Rattle.sql_tables.specs.Texts.{by_both, by_key, eq}
use Rattle.sql_tables.proofs.Answers.{one_at, passing, shown_as, shows_none, shows_row}
use Rattle.sql_tables.proofs.ByKey.{at_both, at_key, eq_itself, passes_key, row_at, inserted, put_again}
use Rattle.sql_tables.proofs.ByKey.{removed}
use Rattle.sql_tables.proofs.ByKey.{fresh_apart, replaced, same_held, same_row}
use Rattle.sql_tables.specs.Maps.{Keyed}
use Rattle.sql_tables.proofs.Keys.{cast_row_fits, cast_row_new, coding, hits, hits_both, meets}
use Rattle.sql_tables.proofs.Keys.{same_keys}
use Rattle.sql_tables.proofs.KeyTests.{equal_is, int_eq, and_true}
use Rattle.sql_tables.specs.Maps.{claim_at}
use Rattle.sql_tables.proofs.Plain.{claimed, frame}
use Rattle.sql_tables.proofs.Unique.{one_at_key}
use Rattle.sql_tables.proofs.Steps.{Resolves, Tried, Wrote, clause_of, delete_wrote, insert_wrote}
use Rattle.sql_tables.proofs.Steps.{update_wrote}
use Rattle.sql_tables.proofs.Steps.{upsert_wrote}

-- a claim that is told in other words
pub retold : (s : Schema) (claims others : List Claim) (base : Database) (st : State)
    → ((db : Trees) → StandsIn s.tables claims db → StandsIn s.tables others db) → Within s claims base st
    → Within s others base st
retold s claims others base st tell w = assumption (tell st.now.trees w.stands.rows)

pub plus_one : (y : ℕ) → y + 1 < 2 ^ 63 → binary (Arith Add) (Int (pos y)) (Int (pos 1)) ≡ Int (pos (y + 1))
unfolding binary
plus_one y low =
    let fits : nat_lt (y + 1) (2 ^ 63) ≡ true = grind (arith, nat_tests) in
    ap (λ b. int_or (cond b (Some (pos (y + 1))) None) (real_arith Add (from_int (pos y)) (from_int (pos 1))))
    fits

-- the one row with a rowid, which stands among the parameters
row_with : {K X : Type 0} {encode : K → X → Row} {rows : List Row} {held : K → Option X}
    → AreRowsOf encode rows held → (params : Row) (at : ℕ) (n : ℤ) (row : Row) → column params at ≡ Int n
    → Has rows (Int n ∷ row) → passing params (eq (col 1 0) (col 0 at) ∷ []) rows ≡ (Int n ∷ row) ∷ []
row_with {rows = rows} are params at n row stands there =
    one_at (λ r. list_all (holds (params ∷ r ∷ [])) (eq (col 1 0) (col 0 at) ∷ [])) rows (Int n ∷ row)
    are.apart there (passes (Int n ∷ row) refl ∙ ap is_eq (tied_itself int_cmp_total n)) (λ r h e.
    let same : id_in (rowid r) ≡ n =
    int_cmp-IsAntisymmetric _ n (equal_is _ (sym (passes r (are.keyed r h)) ∙ e)) in
    same_row rows r (Int n ∷ row) are.apart h there
    (rw (int_is (rowid r) (are.keyed r h), same, tied_itself value_cmp_total (Int n)) refl))
  where
    passes : (r : Row) → is_int (rowid r) ≡ true
        → list_all (holds (params ∷ r ∷ [])) (eq (col 1 0) (col 0 at) ∷ []) ≡ is_eq
        (int_cmp (id_in (rowid r)) n)
    passes r int = rw (int_is (rowid r) int, stands, int_eq (id_in (rowid r)) n) (and_true _)

-- a statement ran inside a transaction, over tables of which this is said
pub record Ran (s : Schema) (claims : List Claim) (base : Database) (old new : State) (text : List ℕ)
    (params : Row) : Type 0 where
  pub within : Within s claims base old
  pub count : ℕ
  pub ran : ExecutesInside 0 text params old new (Ok count)
  pub limit : new.step_limit ≡ old.step_limit

module _ {s : Schema} (fine : is_plain s ≡ true) {claims : List Claim} {base : Database} {old new : State}
    {text : List ℕ} {params : Row} (run : Ran s claims base old new text params) where
  abbrev db : Trees
  db = old.now.trees

  -- one table was written
  pub written : IsDatabase new.now → (d : Descriptor) (place : ℕ)
      → slice_get s.tables place ≡ Some (table_of d) → (ids : List ℤ) (news : List Row) (Q : Claim)
      → Wrote s d.tree ids news db new.now → Q (put_all (without_all (db d.tree) ids) news)
      → Within s (at_place claims place Q) base new
  written sound d place here ids news Q wrote now = record {
    free = record { is_open = run.ran.1.is_open; unlimited = run.limit ∙ run.within.free.unlimited };
    inside = run.ran.1.mode;
    committed = run.ran.1.committed_is ∙ run.within.committed;
    stands = record {
      schema = wrote.schema;
      sound = sound;
      rows = frame s.tables claims place (table_of d) Q db new.now.trees (and_parts _ _ fine).0 here
          wrote.beside run.within.stands.rows (subst Q (sym wrote.is) now);
    };
  }

  -- INSERT of one row, with its rowid, into an empty table
  pub insert_first : (d : Descriptor) (place : ℕ) → slice_get s.tables place ≡ Some (table_of d)
      → (width : ℕ) (terms : List Term) → IsWrite s text (insert place width terms)
      → (id : ℤ) (now : Row) → db d.tree ≡ []
      → value_rows params width (length terms / width) terms ≡ (Int id ∷ now) ∷ [] → fit d.columns now ≡ true
      → Within s (at_place claims place (λ rows. rows ≡ (Int id ∷ now) ∷ [])) base new
  insert_first d place here width terms it id now none one fits =
      let did = insert_wrote s fine d text params old new run.count place here run.within.stands.schema
      run.ran.0 _ it in
      let news : numbered Chosen (db d.tree) (map (cast_row (table_of d)) did.0) ≡ (Int id ∷ now) ∷ [] =
      ap (λ l. numbered Chosen (db d.tree) (map (cast_row (table_of d)) l)) (did.1.1 ∙ one)
      ∙ ap (λ r. numbered Chosen (db d.tree) (r ∷ [])) (cast_row_fits d id now fits) in
      written did.3 d place here [] _ (λ rows. rows ≡ (Int id ∷ now) ∷ []) did.2
      (λ i. put_all (none i) (news i))

  module _ {K X : Type 0} {cmp : K → K → Ordering} {key : K → Row} {value : X → Row}
      (t : Keyed s cmp key value) (held : K → Option X)
      (said : claim_at claims t.place (db t.table.tree)
      → AreRowsOf (row_of key value) (db t.table.tree) held) where
    abbrev are_rows : AreRowsOf (row_of key value) (db t.table.tree) held
    are_rows = said (claimed s.tables claims t.place (table_of t.table) db t.here run.within.stands.rows)

    abbrev columns : List ℕ
    columns = columns_to (suc t.more)

    -- the map with this at the key
    abbrev pub Put : K → Option X → Claim
    Put k o rows = AreRowsOf (row_of key value) rows (put cmp held k o)

    -- the table has this at the key, and the others are as they were
    abbrev pub IsPut : K → Option X → Type 0
    IsPut k o = Within s (at_place claims t.place (Put k o)) base new

    put_rows : (k : K) (o : Option X) → IsDatabase new.now → (ids : List ℤ) (news : List Row)
        → Wrote s t.table.tree ids news db new.now
        → Put k o (put_all (without_all (db t.table.tree) ids) news) → IsPut k o
    put_rows k o sound ids news = written sound t.table t.place t.here ids news (Put k o)

    -- DELETE .. WHERE key
    pub take_in : IsWrite s text (delete t.place t.table.tree (by_key (suc t.more))) → (k : K)
        → params ≡ key k ++ [] → IsPut k None
    take_in it k given =
        let did = delete_wrote s fine t.table text params old new run.count t.place t.here
        run.within.stands.schema run.ran.0 _ it in
        let now = λ (l : List Row) (e : did.0 ≡ l).
        subst (λ l. Wrote s t.table.tree (ids_of l) [] db new.now) e did.2 in
        elim (at_key (coding t.codes) are_rows (λ r. list_all (holds (params ∷ r ∷ []))
        (by_key (suc t.more))) k (hits t.codes k params [] given)) as (λ _. IsPut k None) [
          | inl none ↦ put_rows k None did.3 [] [] (now [] (shows_none db did.1 none.1))
              (same_held are_rows (put_again (coding t.codes) are_rows k None none.0))
          | inr at ↦ put_rows k None did.3 (at.2 ∷ []) [] (now _ (shows_row db did.1 _ at.4))
              (removed (coding t.codes) are_rows k at.2 at.0 at.3)
        ]

    -- the row of the key was written again, with another value
    changed : (k : K) (x y : X) (n : ℤ) → Has (db t.table.tree) (Int n ∷ row_of key value k y)
        → IsDatabase new.now → (rows : List Row) → rows ≡ (Int n ∷ Int n ∷ row_of key value k x) ∷ []
        → Wrote s t.table.tree (ids_of rows) (map (λ r. cast_row (table_of t.table) (drop 1 r)) rows) db
        new.now → IsPut k (Some x)
    changed k x y n there sound rows all wrote =
        let now = subst (λ r. Wrote s t.table.tree (n ∷ []) (r ∷ []) db new.now)
        (cast_row_fits t.table n (row_of key value k x) (t.codes.fit k x))
        (subst (λ l. Wrote s t.table.tree (ids_of l)
        (map (λ r. cast_row (table_of t.table) (drop 1 r)) l) db new.now) all wrote) in
        put_rows k (Some x) sound (n ∷ []) _ now (replaced (coding t.codes) are_rows k x y n there now.fresh)

    abbrev fresh : K → X → Row
    fresh k x = Int (next_rowid (db t.table.tree)) ∷ row_of key value k x

    -- INSERT .. ON CONFLICT (key)
    put_in : (k : K) (x : X) (width : ℕ) (terms : List Term) (update : Option Query)
        → IsWrite s text (InsertOr t.place Abort (Values terms width) (clause_of (Some columns) update ∷ []))
        → value_rows params width (length terms / width) terms ≡ (Null ∷ row_of key value k x) ∷ []
        → ((n : ℤ) (y : X) → held k ≡ Some y → Has (db t.table.tree) (Int n ∷ row_of key value k y)
        → (rows : List Row)
        → Resolves update (params ++ Int n ∷ shown (table_of t.table) (fresh k x)) rows db
        → IsDatabase new.now
        → Wrote s t.table.tree (ids_of rows) (map (λ r. cast_row (table_of t.table) (drop 1 r)) rows) db
        new.now → IsPut k (Some x))
        → IsPut k (Some x)
    put_in k x width terms update it one resolves =
        let did = upsert_wrote s fine t.table text params old new run.count t.place t.here
        run.within.stands.schema run.ran.0 (Some columns) update terms width _ it one in
        let fits = t.codes.fit k x in
        elim (subst (λ r. Tried s t.table (Some columns) update params r db new.now)
        (ap (with_rowid Chosen (db t.table.tree)) (cast_row_new t.table (row_of key value k x) fits)) did.0)
        as (λ _. IsPut k (Some x)) [
          | inl it ↦
              let none : held k ≡ None = elim (held k) as (λ o. held k ≡ o → held k ≡ None) [
                | None ↦ λ e. e
                | Some y ↦ λ e. let row = row_at (coding t.codes) are_rows k y e in
                    absurd (it.1 _ row.1 (meets t k x _ row.0 k y ∙ eq_itself (coding t.codes) k))
              ] refl in
              let now = subst (λ r. Wrote s t.table.tree [] (r ∷ []) db new.now)
              (cast_row_fits t.table _ (row_of key value k x) fits) it.0 in
              put_rows k (Some x) did.1 [] _ now
              (inserted (coding t.codes) are_rows k x _ none now.fresh)
          | inr it ↦
              let was = passes_key (coding t.codes) are_rows
              (conflicts (Some columns) s.indexes (table_of t.table) (fresh k x)) k (meets t k x _)
              it.0 it.1 it.2 in
              resolves (id_in (rowid it.0)) was.0 was.1 (subst (Has (db t.table.tree)) was.2 it.1) it.3
              (subst (λ v. Resolves update (params ++ v ∷ shown (table_of t.table) (fresh k x)) it.3 db)
              (ap rowid was.2) it.4) did.1 it.5
        ]

    -- DO UPDATE: a row that is there gets the value too
    pub upsert_in : (k : K) (x : X) (width : ℕ) (terms : List Term) (at : ℕ) (set : List Term)
        → IsWrite s text (upsert t.place (suc t.more) (Values terms width) (met_update t.table.tree at set))
        → value_rows params width (length terms / width) terms ≡ (Null ∷ row_of key value k x) ∷ []
        → ((m : ℤ) → column (params ++ Int m ∷ shown (table_of t.table) (fresh k x)) at ≡ Int m)
        → ((m : ℤ) (y : X) → held k ≡ Some y
        → shown_as (params ++ Int m ∷ shown (table_of t.table) (fresh k x)) (col 1 0 ∷ col 1 0 ∷ set)
        (Int m ∷ row_of key value k y) ≡ Int m ∷ Int m ∷ row_of key value k x) → IsPut k (Some x)
    upsert_in k x width terms at set it one stands shows =
        put_in k x width terms (Some (met_update t.table.tree at set)) it one
        (λ n y is there rows answer sound wrote.
        changed k x y n there sound rows (shows_row db answer (Int n ∷ row_of key value k y)
        (row_with are_rows _ at n _ (stands n) there) ∙ ap (λ r. r ∷ []) (shows n y is)) wrote)

    -- no row was written
    unchanged : IsDatabase new.now → (rows : List Row) → rows ≡ []
        → Wrote s t.table.tree (ids_of rows) (map (λ r. cast_row (table_of t.table) (drop 1 r)) rows) db
        new.now → Within s (at_place claims t.place (λ rows. AreRowsOf (row_of key value) rows held)) base new
    unchanged sound rows none wrote =
        written sound t.table t.place t.here [] [] (λ rows. AreRowsOf (row_of key value) rows held)
        (subst (λ l. Wrote s t.table.tree (ids_of l)
        (map (λ r. cast_row (table_of t.table) (drop 1 r)) l) db new.now) none wrote) are_rows

    -- UPDATE .. WHERE key: the row of the key gets the value, or there is none, and nothing changes
    pub change_in : (k : K) (x : X) (set : List Term)
        → IsWrite s text (update t.place t.table.tree (by_key (suc t.more)) set) → params ≡ key k ++ []
        → ((m : ℤ) (y : X) → held k ≡ Some y
        → shown_as params (col 1 0 ∷ col 1 0 ∷ set) (Int m ∷ row_of key value k y)
        ≡ Int m ∷ Int m ∷ row_of key value k x)
        → ((held k ≡ None) × (run.count ≡ 0)
        × Within s (at_place claims t.place (λ rows. AreRowsOf (row_of key value) rows held)) base new)
        ⊎ ((y : X) × (held k ≡ Some y) × (run.count ≡ 1) × IsPut k (Some x))
    change_in k x set it given shows =
        let did = update_wrote s fine t.table text params old new run.count t.place t.here
        run.within.stands.schema run.ran.0 _ it in
        elim (at_key (coding t.codes) are_rows (λ r. list_all (holds (params ∷ r ∷ []))
        (by_key (suc t.more))) k (hits t.codes k params [] given)) [
          | inl none ↦
              let all : did.0 ≡ [] = shows_none db did.1 none.1 in
              inl (none.0, did.4 ∙ ap length all, unchanged did.3 did.0 all did.2)
          | inr at ↦
              let all = shows_row db did.1 _ at.4 ∙ ap (λ r. r ∷ []) (shows at.2 at.0 at.1) in
              inr (at.0, at.1, did.4 ∙ ap length all, changed k x at.0 at.2 at.3 did.3 did.0 all did.2)
        ]

    -- UPDATE .. WHERE rowid AND key: if the row of the key has that rowid, it gets the value; else nothing
    -- changes
    pub change_at : (k : K) (x : X) (rest : Row) (place : ℕ) (n : ℤ) (set : List Term)
        → IsWrite s text (update t.place t.table.tree (by_both place (suc t.more)) set)
        → params ≡ key k ++ rest → column params place ≡ Int n
        → ((m : ℤ) (y : X) → held k ≡ Some y
        → shown_as params (col 1 0 ∷ col 1 0 ∷ set) (Int m ∷ row_of key value k y)
        ≡ Int m ∷ Int m ∷ row_of key value k x)
        → ((run.count ≡ 0)
        × Within s (at_place claims t.place (λ rows. AreRowsOf (row_of key value) rows held)) base new)
        ⊎ ((run.count ≡ 1) × IsPut k (Some x))
    change_at k x rest place n set it given stands shows =
        let did = update_wrote s fine t.table text params old new run.count t.place t.here
        run.within.stands.schema run.ran.0 _ it in
        elim (at_both (coding t.codes) are_rows (λ r. list_all (holds (params ∷ r ∷ []))
        (by_both place (suc t.more))) n k (hits_both t.codes k params rest given place n stands)) [
          | inl none ↦
              let all : did.0 ≡ [] = shows_none db did.1 none in
              inl (did.4 ∙ ap length all, unchanged did.3 did.0 all did.2)
          | inr at ↦
              let all = shows_row db did.1 _ at.3 ∙ ap (λ r. r ∷ []) (shows n at.0 at.1) in
              inr (did.4 ∙ ap length all, changed k x at.0 n at.2 did.3 did.0 all did.2)
        ]

    -- INSERT: a new row with a key that wasn't there
    pub insert_in : (k : K) (x : X) (width : ℕ) (terms : List Term)
        → IsWrite s text (insert t.place width terms)
        → value_rows params width (length terms / width) terms ≡ (Null ∷ row_of key value k x) ∷ []
        → (held k ≡ None) × IsPut k (Some x)
    insert_in k x width terms it one =
        let did = insert_wrote s fine t.table text params old new run.count t.place t.here
        run.within.stands.schema run.ran.0 _ it in
        let cast = cast_row (table_of t.table) in
        let news : numbered Chosen (db t.table.tree) (map cast did.0) ≡ fresh k x ∷ [] =
        ap (λ l. numbered Chosen (db t.table.tree) (map cast l)) (did.1.1 ∙ one)
        ∙ ap (λ r. numbered Chosen (db t.table.tree) (r ∷ []))
        (cast_row_new t.table (row_of key value k x) (t.codes.fit k x)) in
        let now = subst (λ l. Wrote s t.table.tree [] l db new.now) news did.2 in
        let none = unmet k x now did.3 in (
          none,
          put_rows k (Some x) did.3 [] _ now (inserted (coding t.codes) are_rows k x _ none now.fresh),
        )
      where
        -- a sound database has one row of a key, so what was there would be the new row
        unmet : (k : K) (x : X) → Wrote s t.table.tree [] (fresh k x ∷ []) db new.now → IsDatabase new.now
            → held k ≡ None
        unmet k x now sound = elim (held k) as (λ o. held k ≡ o → o ≡ None) [
          | None ↦ λ e. refl
          | Some y ↦ λ e.
              let was = row_at (coding t.codes) are_rows k y e in
              let still = subst (λ l. Has l (Int was.0 ∷ row_of key value k y)) (sym now.is)
              (put_all_keeps (fresh k x ∷ []) (db t.table.tree) _ now.fresh was.1) in
              let added = subst (λ l. Has l (fresh k x)) (sym now.is)
              (has_put (fresh k x) (db t.table.tree)) in
              let same = one_at_key s new.now now.schema sound t.table t.place t.here columns t.guarded _ _ _
              _
              still added (same_keys t k x _ _ k y ∙ eq_itself (coding t.codes) k) in
              absurd (all_has _ (db t.table.tree) _ (fresh_apart (fresh k x) (db t.table.tree) now.fresh)
              was.1
              (ap (λ i. value_cmp (rowid (fresh k x)) (Int i)) same
              ∙ tied_itself value_cmp_total (rowid (fresh k x))))
        ] refl
