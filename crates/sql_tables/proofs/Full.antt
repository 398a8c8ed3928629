-- Each row of a table has a value for each column, so a query of all columns shows the rows as they stand.
use Rattle.std.proofs.Common.{◌≡◌, inl, inr, ℕ, zero, suc, ◌+◌, ◌<◌, ◌≤◌, List, [], ◌∷◌, length, map, drop}
use Rattle.std.proofs.Common.{not, true, Some, None, refl, sym, subst, ◌∙◌, true≢false, arith, slice_get}
use Rattle.std.proofs.lemmas.Bool.{and_parts}
use Rattle.std.specs.List.{list_all}
use Rattle.std.specs.Prelude.{◌||◌}
use Rattle.sqlite.specs.Effect.{Database, IsDatabase}
use Rattle.sqlite.specs.Order.{Row, column}
use Rattle.sqlite.specs.Schema.{Schema}
use Rattle.sqlite.specs.Term.{Term, col, eval_all}
use Rattle.sqlite_rules.specs.Lists.{Has}
use Rattle.sqlite_rules.proofs.ListLemmas.{has_got}
use Rattle.sqlite_rules.proofs.RuleLemmas.{keeps_at}
use Rattle.sqlite_schema.specs.Rules.{are_typed, are_present}
use Rattle.sqlite_schema.specs.declared.schema.Column.{Column}
use Rattle.sqlite_schema.specs.declared.schema.Constraint.TheVariants.{Datatype, NotNull}
use Rattle.sqlite_sql.specs.Ops.{is_null}
use Rattle.sqlite.specs.declared.types.Value.{Value}
use Rattle.sql_tables.specs.Schema.{Descriptor, table_of, below}
use Rattle.sql_tables.proofs.Answers.{shown_as}

-- all columns of a table with n, with its rowid in front
abbrev pub all_columns : ℕ → List Term
all_columns n = map (λ i. col 1 i) (below (suc n))

pub columns_behind : (places : List ℕ) (params : Row) (v : Value) (r : Row)
    → eval_all (map (λ i. col 1 i) (map (λ i. suc i) places)) (params ∷ (v ∷ r) ∷ []) ≡ eval_all
    (map (λ i. col 1 i) places) (params ∷ r ∷ [])
columns_behind [] params v r = refl
columns_behind (i ∷ places) params v r = λ j. column r i ∷ columns_behind places params v r j

-- a row is the list of its columns
pub columns_are : (n : ℕ) (params r : Row) → length r ≡ n
    → shown_as params (map (λ i. col 1 i) (below n)) r ≡ r
columns_are zero params [] many = refl
columns_are zero params (v ∷ r) many = absurd (let e = many in cc)
columns_are (suc n) params [] many = absurd (let e = many in cc)
columns_are (suc n) params (v ∷ r) many =
    λ j. v ∷ (columns_behind (below n) params v r ∙ columns_are n params r (omega (arith, many))) j

pub typed_many : (at : ℕ) (cols : List Column) (vs : Row) → are_typed None at cols vs ≡ true
    → length vs ≤ length cols
typed_many at [] [] e = omega arith
typed_many at [] (v ∷ vs) e = absurd (true≢false (sym e))
typed_many at (c ∷ cs) [] e = omega arith
typed_many at (c ∷ cs) (v ∷ vs) e = omega (arith, typed_many (at + 1) cs vs (and_parts _ _ e).1)

column_there : (row : Row) (i : ℕ) → not (is_null (column row i)) ≡ true → i < length row
column_there [] i e = absurd (true≢false (sym e))
column_there (v ∷ row) zero e = omega arith
column_there (v ∷ row) (suc i) e = omega (arith, column_there row i e)

-- the last of columns that are never NULL is there
pub present_many : (at : ℕ) (c : Column) (cs : List Column) (row : Row)
    → list_all (λ c. c.not_null) (c ∷ cs) ≡ true
    → are_present None at (c ∷ cs) row ≡ true → at + suc (length cs) < length row
present_many at c [] row always e =
    let is = (and_parts c.not_null _ always).0 in
    let test = (and_parts (not c.not_null || not (is_null (column row (at + 1)))) _ e).0 in
    column_there row (at + 1) (rw is at test)
present_many at c (d ∷ cs) row always e =
    omega (arith, present_many (at + 1) d cs row (and_parts _ _ always).1 (and_parts _ _ e).1)

present_all : (cols : List Column) (row : Row) → 0 < length cols → list_all (λ c. c.not_null) cols ≡ true
    → are_present None 0 cols row ≡ true → length cols < length row
present_all [] row some always e = absurd (omega (arith, some))
present_all (c ∷ cs) row some always e = omega (arith, present_many 0 c cs row always e)

dropped : (n : ℕ) (r : Row) → length (drop 1 r) ≤ n → n < length r → length r ≡ suc n
dropped n [] most least = omega (arith, least)
dropped n (v ∷ r) most least = omega (arith, most, least)

pub map_same : (f : Row → Row) (rows : List Row) → ((r : Row) → Has rows r → f r ≡ r) → map f rows ≡ rows
map_same f [] same = refl
map_same f (r ∷ rows) same = λ i. same r (inl refl) i ∷ map_same f rows (λ s h. same s (inr h)) i

module _ (s : Schema) (db : Database) (has : db.schema ≡ s) (sound : IsDatabase db) (d : Descriptor)
    (ordinary : d.rowid ≡ None) (place : ℕ) (here : slice_get s.tables place ≡ Some (table_of d))
    (params : Row) where
  -- where each row is long enough, as where no column may be NULL
  pub shown_long : ((r : Row) → Has (db.trees d.tree) r → length d.columns < length r)
      → map (shown_as params (all_columns (length d.columns))) (db.trees d.tree) ≡ db.trees d.tree
  shown_long long =
      map_same _ (db.trees d.tree) (λ r h.
      let typed = keeps_at Datatype db.schema db.trees (table_of d) r (sound.obeys.rules Datatype)
      (subst (λ (it : Schema). Has it.tables (table_of d)) (sym has)
      (has_got s.tables place (table_of d) here)) h in
      columns_are (suc (length d.columns)) params r
      (dropped (length d.columns) r
      (typed_many 0 d.columns (drop 1 r)
      (subst (λ k. are_typed k 0 d.columns (drop 1 r) ≡ true) ordinary
      (and_parts (are_typed d.rowid 0 d.columns (drop 1 r)) _ typed).0)) (long r h)))

  pub shown_full : 0 < length d.columns → list_all (λ c. c.not_null) d.columns ≡ true
      → map (shown_as params (all_columns (length d.columns))) (db.trees d.tree) ≡ db.trees d.tree
  shown_full some always =
      shown_long (λ r h.
      let there = keeps_at NotNull db.schema db.trees (table_of d) r (sound.obeys.rules NotNull)
      (subst (λ (it : Schema). Has it.tables (table_of d)) (sym has)
      (has_got s.tables place (table_of d) here)) h in
      present_all d.columns r some always (subst (λ k. are_present k 0 d.columns r ≡ true) ordinary there))
