-- What a sound database says of a table whose key is its rowid: a UNIQUE key comes once, and each row has a
-- value for each column.
use Rattle.std.proofs.Common.{◌≡◌, ℕ, ℤ, suc, ◌+◌, ◌<◌, List, [], ◌∷◌, length, map, drop, true, false, Option}
use Rattle.std.proofs.Common.{Some}
use Rattle.std.proofs.Common.{None, refl, sym, ap, subst, ◌∙◌, arith, ◌==◌}
use Rattle.std.proofs.lemmas.Bool.{and_from, and_parts}
use Rattle.std.proofs.lemmas.Bool.Decides.{nat_tests}
use Rattle.std.proofs.lemmas.List.Sorted.{IsPermutation-map}
use Rattle.std.specs.Cmp.{tied_itself}
use Rattle.std.proofs.lemmas.Cmp.{nat_list_cmp_total}
use Rattle.sqlite_sql.specs.Ops.{is_null}
use Rattle.std.specs.Prelude.{◌&&◌}
use Rattle.sql_tables.proofs.Limited.{mapped_twice}
use Rattle.std.specs.List.{AllByRecursion, list_all}
use Rattle.std.specs.List.Sorted.{IsPermutation}
use Rattle.sqlite.specs.Collation.TheVariants.{Binary}
use Rattle.sqlite.specs.Effect.{Database, IsDatabase}
use Rattle.sqlite.specs.Order.{Row, column}
use Rattle.sqlite.specs.Schema.{Schema}
use Rattle.sqlite.specs.State.{State, Shown}
use Rattle.sqlite.specs.Term.{Term, col}
use Rattle.sqlite.specs.Tree.{rowid}
use Rattle.sqlite.specs.declared.types.Value.{Value}
use Rattle.sqlite.specs.declared.types.Value.TheVariants.{Null, Int, Text}
use Rattle.sqlite_rules.proofs.ListLemmas.{has_got}
use Rattle.sqlite_rules.proofs.RuleLemmas.{keeps_at}
use Rattle.sqlite_rules.specs.Lists.{Has}
use Rattle.sqlite_schema.specs.Rules.{are_present, are_typed, equal}
use Rattle.sqlite_schema.specs.declared.schema.Column.{Column}
use Rattle.sqlite_schema.specs.declared.schema.Constraint.TheVariants.{Datatype, NotNull}
use Rattle.sqlite_value.specs.declared.keys.Key.{Key}
use Rattle.sql_tables.specs.Rows.{AreRowsById}
use Rattle.sql_tables.specs.Schema.{below, table_of}
use Rattle.sql_tables.specs.Texts.{IsQuery, sorted_of}
use Rattle.sql_tables.proofs.Answers.{shown_as}
use Rattle.sql_tables.proofs.ById.{ById}
use Rattle.sql_tables.proofs.Full.{columns_are, columns_behind, map_same, present_many, typed_many}
use Rattle.sql_tables.specs.Maps.{IsGuarded}
use Rattle.sql_tables.proofs.Keys.{same_at}
use Rattle.sql_tables.proofs.KeyTests.{text_eq}
use Rattle.sql_tables.proofs.Reading.{reads_all}
use Rattle.sql_tables.proofs.Unique.{one_at_key}

-- two rows have the same texts at these places
abbrev pub HaveTexts : List ℕ → Row → Row → Type 0
HaveTexts places a b = AllByRecursion (λ i. (t : List ℕ) × (column a i ≡ Text t)
    × (column b i ≡ Text t)) places

same_texts : (places : List ℕ) (a b : Row) → HaveTexts places a b → same_at places a b ≡ true
same_texts [] a b have = refl
same_texts (i ∷ places) a b have =
    let it = have.0 in
    let same : equal Binary (column a i) (column b i) ≡ true = rw (
      it.1,
      it.2,
      text_eq it.0 it.0,
      tied_itself nat_list_cmp_total it.0,
    ) refl in
    and_from _ _ same (same_texts places a b have.1)

-- two ids whose rows have the same texts at a UNIQUE key are one
pub unique_id : {s : Schema} {X : Type 0} {value : X → Row} (t : ById s value) (db : Database)
    → db.schema ≡ s → IsDatabase db → {held : ℤ → Option X} → AreRowsById value (db.trees t.table.tree) held
    → (key : List ℕ) → IsGuarded s.indexes (table_of t.table) key → (n m : ℤ) (x y : X) → held n ≡ Some x
    → held m ≡ Some y → HaveTexts key (Int n ∷ value x) (Int m ∷ value y) → n ≡ m
unique_id {s} {value = value} t db has sound are key guarded n m x y is and have =
    one_at_key s db has sound t.table t.place t.here key guarded n m (value x) (value y)
    (are.complete n x is) (are.complete m y and) (same_texts key (Int n ∷ value x) (Int m ∷ value y) have)

-- ---- all columns of such a table

-- the rowid, and the columns behind the first of all, which the rowid stands for: as many as n
abbrev pub id_columns : ℕ → List Term
id_columns n = col 1 0 ∷ map (λ i. col 1 i) (map (λ i. suc i) (map (λ i. suc i) (below n)))

-- a row that was shown by them, with NULL in the place of the first column
abbrev pub with_null : Row → Row
with_null r = rowid r ∷ Null ∷ drop 1 r

shown_back : (n : ℕ) (params : Row) (v : Value) (r : Row) → length r ≡ n
    → with_null (shown_as params (id_columns n) (v ∷ Null ∷ r)) ≡ v ∷ Null ∷ r
shown_back n params v r many = ap (λ l. v ∷ Null ∷ l)
    (columns_behind (map (λ i. suc i) (below n)) params v (Null ∷ r)
    ∙ columns_behind (below n) params Null r ∙ columns_are n params r many)

not_first : (at : ℕ) → (0 == at + 1) ≡ false
not_first at = grind (arith, nat_tests)

-- behind its first column such a table is as one whose key is not its rowid
typed_behind : (at : ℕ) (cols : List Column) (vs : Row)
    → are_typed (Some 0) (at + 1) cols vs ≡ are_typed None (at + 1) cols vs
typed_behind at [] [] = refl
typed_behind at [] (v ∷ vs) = refl
typed_behind at (c ∷ cols) [] = ap (λ b. is_null c.default && b) (typed_behind (at + 1) cols [])
typed_behind at (c ∷ cols) (v ∷ vs) = rw (not_first at, typed_behind (at + 1) cols vs) refl

present_behind : (at : ℕ) (cols : List Column) (r : Row)
    → are_present (Some 0) (at + 1) cols r ≡ are_present None (at + 1) cols r
present_behind at [] r = refl
present_behind at (c ∷ cols) r = rw (not_first at, present_behind (at + 1) cols r) refl

null_is : (v : Value) → is_null v ≡ true → v ≡ Null
null_is v e = grind arith

-- where no column but the first may be NULL, a row is its rowid, NULL and a value for each other column
row_parts : (cols : List Column) (r : Row) → 0 < length (drop 1 cols)
    → list_all (λ c. c.not_null) (drop 1 cols) ≡ true → are_typed (Some 0) 0 cols (drop 1 r) ≡ true
    → are_present (Some 0) 0 cols r ≡ true
    → (r ≡ rowid r ∷ Null ∷ drop 2 r) × (length (drop 2 r) ≡ length (drop 1 cols))
row_parts [] r some always typed present = absurd (omega (arith, some))
row_parts (c ∷ []) r some always typed present = absurd (omega (arith, some))
row_parts (c ∷ d ∷ cols) r some always typed present =
    parts r (present_many 1 d cols r always (sym (present_behind 0 (d ∷ cols) r) ∙ present)) typed
  where
    parts : (r : Row) → 1 + suc (length cols) < length r
        → are_typed (Some 0) 0 (c ∷ d ∷ cols) (drop 1 r) ≡ true
        → (r ≡ rowid r ∷ Null ∷ drop 2 r) × (length (drop 2 r) ≡ suc (length cols))
    parts [] long typed = absurd (omega (arith, long))
    parts (v ∷ []) long typed = absurd (omega (arith, long))
    parts (v ∷ w ∷ r) long typed =
        let it = and_parts (is_null w) (are_typed (Some 0) 1 (d ∷ cols) r) typed in
        let few = typed_many 1 (d ∷ cols) r (sym (typed_behind 0 (d ∷ cols) r) ∙ it.1) in
        ((λ i. v ∷ null_is w it.0 i ∷ r), omega (arith, long, few))

module _ {s : Schema} {X : Type 0} {value : X → Row} (t : ById s value) where
  abbrev others : List Column
  others = drop 1 t.table.columns

  -- SELECT of all columns, of which only the id may be NULL: with NULL in its place, the rows as they stand
  pub reads_ids : (old new : State) → old.now.schema ≡ s → IsDatabase old.now → (text : List ℕ)
      (rows : List Row) (order : List (Term × Key))
      → IsQuery s text (sorted_of t.table.tree [] (id_columns (length others)) [] order)
      → Shown text [] old new rows → t.table.rowid ≡ Some 0 → 0 < length others
      → list_all (λ c. c.not_null) others ≡ true
      → IsPermutation (old.now.trees t.table.tree) (map with_null rows)
  reads_ids old new has sound text rows order means shown first some always =
      subst (λ l. IsPermutation l (map with_null rows))
      (mapped_twice with_null (shown_as [] (id_columns (length others))) tree ∙ map_same _ tree back)
      (IsPermutation-map with_null _ rows
      (reads_all s old new has text rows t.table.tree _ order means shown))
    where
      tree : List Row
      tree = old.now.trees t.table.tree

      listed : Has old.now.schema.tables (table_of t.table)
      listed = subst (λ (it : Schema). Has it.tables (table_of t.table)) (sym has)
          (has_got s.tables t.place (table_of t.table) t.here)

      back : (r : Row) → Has tree r → with_null (shown_as [] (id_columns (length others)) r) ≡ r
      back r h =
          let typed = keeps_at Datatype old.now.schema old.now.trees (table_of t.table) r
          (sound.obeys.rules Datatype) listed h in
          let present = keeps_at NotNull old.now.schema old.now.trees (table_of t.table) r
          (sound.obeys.rules NotNull) listed h in
          let parts = row_parts t.table.columns r some always
          (subst (λ k. are_typed k 0 t.table.columns (drop 1 r) ≡ true) first
          (and_parts (are_typed t.table.rowid 0 t.table.columns (drop 1 r)) _ typed).0)
          (subst (λ k. are_present k 0 t.table.columns r ≡ true) first present) in
          ap (λ x. with_null (shown_as [] (id_columns (length others)) x)) parts.0
          ∙ shown_back (length others) [] (rowid r) (drop 2 r) parts.1 ∙ sym parts.0
