-- What the tests of a key come to, whatever its columns.
use Rattle.std.proofs.Common.{◌≡◌, ◌&&◌, ◌||◌, ◌++◌, ℕ, ℤ, zero, suc, Bool, true, false, List, [], ◌∷◌}
use Rattle.std.proofs.Common.{length, map, refl, sym, ap, ◌∙◌, Some, arith, Ordering, int_cmp}
use Rattle.std.proofs.lemmas.Bool.{and_parts}
use Rattle.std.specs.List.{list_all, list_any}
use Rattle.std.specs.Ordering.{eq_by_cmp}
use Rattle.std.specs.Cmp.{tied_itself}
use Rattle.sqlite.specs.Cast.{cast, cast_row, cast_all}
use Rattle.sqlite.specs.Collation.TheVariants.{Binary}
use Rattle.sqlite.specs.Kind.{Kind}
use Rattle.sqlite.specs.Kind.TheVariants as kind
use Rattle.sqlite.specs.Ops.{unary}
use Rattle.sqlite.specs.Order.{Row, column}
use Rattle.sqlite.specs.Schema.{Schema}
use Rattle.sqlite.specs.Table.{Table}
use Rattle.sqlite.specs.Term.{col, holds}
use Rattle.sqlite.specs.declared.types.Value.{Value}
use Rattle.sqlite.specs.declared.types.Value.TheVariants.{Null, Int}
use Rattle.sqlite_rules.specs.Keys.{conflicts, shares}
use Rattle.sqlite_schema.specs.Rules.{agree, equal}
use Rattle.sqlite_schema.specs.declared.schema.Column.{Column}
use Rattle.sqlite_schema.specs.declared.schema.Index.{Index}
use Rattle.sqlite_value.specs.Keys.{first_key, plain}
use Rattle.sql_tables.specs.Codes.{Codes, same_values, fits, fit, row_of}
use Rattle.sql_tables.specs.Schema.{Descriptor, table_of, columns_to, guards_of, below}
use Rattle.sql_tables.specs.Texts.{by_both, by_key, eq}
use Rattle.sql_tables.proofs.ByKey.{Coding}
use Rattle.sql_tables.proofs.KeyTests.{equal_is, int_eq}
use Rattle.sql_tables.specs.Maps.{IsGuarded, Keyed}

-- the columns at these places are equal
abbrev pub same_at : List ℕ → Row → Row → Bool
same_at places a b = list_all (λ i. equal Binary (column a i) (column b i)) places

pub same_behind : (places : List ℕ) (v w : Value) (a b : Row)
    → same_at (map (λ i. suc i) places) (v ∷ a) (w ∷ b) ≡ same_at places a b
same_behind [] v w a b = refl
same_behind (i ∷ places) v w a b = ap (λ t. equal Binary (column a i) (column b i) && t)
    (same_behind places v w a b)

-- the first columns are the keys
pub same_first : (n : ℕ) (q k y x : Row) → length q ≡ n → length k ≡ n
    → same_at (below n) (q ++ y) (k ++ x) ≡ same_values q k
same_first zero [] [] y x lq lk = refl
same_first zero [] (b ∷ k) y x lq lk = absurd (let e = lk in cc)
same_first zero (a ∷ q) k y x lq lk = absurd (let e = lq in cc)
same_first (suc n) [] k y x lq lk = absurd (let e = lq in cc)
same_first (suc n) (a ∷ q) [] y x lq lk = absurd (let e = lk in cc)
same_first (suc n) (a ∷ q) (b ∷ k) y x lq lk =
    ap (λ t. equal Binary a b && t)
    (same_behind (below n) a b (q ++ y) (k ++ x)
    ∙ same_first n q k y x (omega (arith, lq)) (omega (arith, lk)))

tests_are : (places : List ℕ) (v : Value) (row params : Row)
    → list_all (holds (params ∷ (v ∷ row) ∷ [])) (map (λ i. eq (col 1 (suc i)) (col 0 i)) places)
    ≡ same_at places row params
tests_are [] v row params = refl
tests_are (i ∷ places) v row params = ap (λ t. equal Binary (column row i) (column params i) && t)
    (tests_are places v row params)

pub agree_are : (places : List ℕ) (a b : Row) → agree plain places a places b ≡ same_at places a b
unfolding first_key
agree_are [] a b = refl
agree_are (i ∷ places) a b = ap (λ t. equal Binary (column a i) (column b i) && t) (agree_are places a b)

-- ---- the indexes that guard a key

any_of : (target : List ℕ) (t : Table) (new row : Row) (indexes : List Index)
    → list_any (shares (Some target) t new row) indexes ≡ list_any
    (λ i. agree i.order i.columns row i.columns new) (guards_of indexes t target)
any_of target t new row [] = refl
any_of target t new row (i ∷ indexes) = let rest = any_of target t new row indexes in grind (arith, rest)

or_false : (a : Bool) → (a || false) ≡ a
or_false a = grind arith

conflicts_by : (indexes : List Index) (t : Table) (n : ℕ) (new row : Row)
    → IsGuarded indexes t (columns_to (suc n))
    → conflicts (Some (columns_to (suc n))) indexes t new row ≡ same_at (columns_to (suc n)) row new
conflicts_by indexes t n new row g =
    any_of (columns_to (suc n)) t new row indexes
    ∙ ap (list_any (λ i. agree i.order i.columns row i.columns new)) g.only
    ∙ or_false _ ∙ (λ i. agree (g.order i) (g.columns i) row (g.columns i) new)
    ∙ agree_are (columns_to (suc n)) row new

-- ---- what a column makes of a value

cast_fits : (k : Kind) (v : Value) → fits k v ≡ true → cast k v ≡ v
unfolding unary
cast_fits k v h = grind arith

cast_all_fit : (cs : List Column) (vs : Row) → fit cs vs ≡ true → cast_all cs vs ≡ vs
cast_all_fit [] vs h = refl
cast_all_fit (c ∷ cs) [] h = refl
cast_all_fit (c ∷ cs) (v ∷ vs) h = λ i. cast_fits c.kind v (and_parts _ _ h).0 i ∷ cast_all_fit cs vs
    (and_parts _ _ h).1 i

-- a row that fits is stored as it is, with its rowid or with NULL before it has one
pub cast_row_fits : (d : Descriptor) (n : ℤ) (row : Row) → fit d.columns row ≡ true
    → cast_row (table_of d) (Int n ∷ row) ≡ Int n ∷ row
cast_row_fits d n row h = λ i. cast_fits kind.Integer (Int n) refl i ∷ cast_all_fit d.columns row h i

pub cast_row_new : (d : Descriptor) (row : Row) → fit d.columns row ≡ true
    → cast_row (table_of d) (Null ∷ row) ≡ Null ∷ row
cast_row_new d row h = λ i. cast_fits kind.Integer Null refl i ∷ cast_all_fit d.columns row h i

-- ---- a table that is coded

parts_back : (a b c e : Row) → length a ≡ length b → a ++ c ≡ b ++ e → (a ≡ b) × (c ≡ e)
parts_back [] [] c e many same = (refl, same)
parts_back [] (y ∷ b) c e many same = absurd (let z = many in cc)
parts_back (x ∷ a) [] c e many same = absurd (let z = many in cc)
parts_back (x ∷ a) (y ∷ b) c e many same =
    let head : x ≡ y = cc in
    let tail : a ++ c ≡ b ++ e = cc in
    let it = parts_back a b c e (omega (arith, many)) tail in
    ((λ i. head i ∷ it.0 i), it.1)

module _ {K X : Type 0} {cmp : K → K → Ordering} {columns : List Column} {n : ℕ} {key : K → Row}
    {value : X → Row} (c : Codes cmp columns n key value) where
  key_back : (a b : K) → key a ≡ key b → a ≡ b
  key_back a b e =
      c.exact a b
      (equal_is _
      (sym (c.same a b) ∙ ap (λ r. same_values r (key b)) e ∙ c.same b b ∙ rw (tied_itself c.total b) refl))

  both_back : (a b : K) (y z : X) → row_of key value a y ≡ row_of key value b z
      → (key a ≡ key b) × (value y ≡ value z)
  both_back a b y z e = parts_back (key a) (key b) (value y) (value z) (c.long a ∙ sym (c.long b)) e

  -- rows tell their keys and values
  pub coding : Coding cmp (row_of key value)
  coding = record {
    total = c.total;
    exact = c.exact;
    key = λ a b y z e. key_back a b (both_back a b y z e).0;
    value = λ a b y z e. c.value_back y z (both_back a b y z e).1;
  }

  -- the tests of a look-up pass the row of the key alone
  pub hits : (k : K) (params rest : Row) → params ≡ key k ++ rest → (id : ℤ) (q : K) (y : X)
      → list_all (holds (params ∷ (Int id ∷ row_of key value q y) ∷ [])) (by_key n) ≡ eq_by_cmp cmp q k
  hits k params rest given id q y = tests_are (below n) (Int id) (row_of key value q y) params
      ∙ ap (same_at (below n) (row_of key value q y)) given
      ∙ same_first n (key q) (key k) (value y) rest (c.long q) (c.long k) ∙ c.same q k

  -- with the test of a rowid, they pass that row alone if it is the key's
  pub hits_both : (k : K) (params rest : Row) → params ≡ key k ++ rest → (place : ℕ) (m : ℤ)
      → column params place ≡ Int m → (id : ℤ) (q : K) (y : X)
      → list_all (holds (params ∷ (Int id ∷ row_of key value q y) ∷ [])) (by_both place n)
      ≡ (eq_by_cmp int_cmp id m && eq_by_cmp cmp q k)
  hits_both k params rest given place m stands id q y =
      rw (stands, int_eq id m) (ap (λ b. eq_by_cmp int_cmp id m && b) (hits k params rest given id q y))

-- the key's columns of two rows are the same where their keys are
pub same_keys : {K X : Type 0} {s : Schema} {cmp : K → K → Ordering} {key : K → Row} {value : X → Row}
    (t : Keyed s cmp key value) (k : K) (x : X) (id m : ℤ) (q : K) (y : X)
    → same_at (columns_to (suc t.more)) (Int m ∷ row_of key value q y) (Int id ∷ row_of key value k x)
    ≡ eq_by_cmp cmp q k
same_keys {key = key} {value = value} t k x id m q y =
    same_behind (below (suc t.more)) (Int m) (Int id) (row_of key value q y) (row_of key value k x)
    ∙ same_first (suc t.more) (key q) (key k) (value y) (value x) (t.codes.long q) (t.codes.long k)
    ∙ t.codes.same q k

-- a new row meets the row of its key alone
pub meets : {K X : Type 0} {s : Schema} {cmp : K → K → Ordering} {key : K → Row} {value : X → Row}
    (t : Keyed s cmp key value) (k : K) (x : X) (id m : ℤ) (q : K) (y : X)
    → conflicts (Some (columns_to (suc t.more))) s.indexes (table_of t.table) (Int id ∷ row_of key value k x)
    (Int m ∷ row_of key value q y) ≡ eq_by_cmp cmp q k
meets {key = key} {value = value} t k x id m q y =
    conflicts_by _ (table_of t.table) t.more (Int id ∷ row_of key value k x) (Int m ∷ row_of key value q y)
    t.guarded ∙ same_keys t k x id m q y
