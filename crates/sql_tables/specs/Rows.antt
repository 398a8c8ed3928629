-- How rows stand for pairs of keys and values.
use Rattle.std.specs.Prelude.{◌≡◌, ◌≢◌, ℤ, true, cond, List, [], ◌∷◌, drop, Option, Some, None}
use Rattle.std.specs.Ordering.{eq_by_cmp}
use Rattle.std.specs.declared.cmp.Ordering.{Ordering}
use Rattle.std.specs.declared.cmp.Ordering.TheVariants.{Equal}
use Rattle.sqlite.specs.Order.{Row, value_cmp}
use Rattle.sqlite.specs.Tree.{IsAscending, rowid}
use Rattle.sqlite.specs.View.{is_int}
use Rattle.sqlite.specs.declared.types.Value.TheVariants.{Int}
use Rattle.sqlite_rules.specs.Lists.{Has}

-- no rowid comes twice
abbrev pub IsApart : List Row → Type 0
IsApart = IsAscending (λ a b. value_cmp (rowid a) (rowid b) ≢ Equal)

-- one row for each pair, and no other rows; behind its rowid a row is its pair
pub record AreRowsOf {K X : Type 0} (encode : K → X → Row) (rows : List Row) (held : K → Option X) : Type 0
  where
    pub apart : IsApart rows
    pub keyed : (r : Row) → Has rows r → is_int (rowid r) ≡ true
    pub once : (r s : Row) (k : K) (x y : X) → Has rows r → Has rows s → drop 1 r ≡ encode k x
        → drop 1 s ≡ encode k y → r ≡ s
    pub sound : (r : Row) → Has rows r → (k : K) × (x : X) × (drop 1 r ≡ encode k x) × (held k ≡ Some x)
    pub complete : (k : K) (x : X) → held k ≡ Some x → (r : Row) × Has rows r × (drop 1 r ≡ encode k x)

-- One row for each number, which is its rowid, and no other rows; behind its rowid a row is the value.
pub record AreRowsById {X : Type 0} (value : X → Row) (rows : List Row) (held : ℤ → Option X) : Type 0 where
  pub apart : IsApart rows
  pub sound : (r : Row) → Has rows r → (n : ℤ) × (x : X) × (r ≡ Int n ∷ value x) × (held n ≡ Some x)
  pub complete : (n : ℤ) (x : X) → held n ≡ Some x → Has rows (Int n ∷ value x)

-- the one row of what is there, or none
abbrev pub one_of : {X : Type 0} → (X → Row) → Option X → List Row
one_of show None = []
one_of show (Some x) = show x ∷ []

-- a value at a key, and the others as they were
abbrev pub put : {K X : Type 0} → (K → K → Ordering) → (K → Option X) → K → Option X → K → Option X
put cmp held key value q = cond (eq_by_cmp cmp q key) value (held q)
