-- How a table's columns stand for a key and a value.
use Rattle.std.specs.Prelude.{◌≡◌, ◌&&◌, ◌++◌, ℕ, true, false, Bool, List, [], ◌∷◌, length}
use Rattle.std.specs.Cmp.{IsTotalOrder}
use Rattle.std.specs.FinMap.{IsAntisymmetric}
use Rattle.std.specs.Ordering.{eq_by_cmp}
use Rattle.std.specs.declared.cmp.Ordering.{Ordering}
use Rattle.sqlite.specs.Collation.TheVariants.{Binary}
use Rattle.sqlite.specs.Kind.{Kind}
use Rattle.sqlite.specs.Kind.TheVariants as kind
use Rattle.sqlite.specs.Order.{Row}
use Rattle.sqlite.specs.declared.types.Value.{Value}
use Rattle.sqlite.specs.declared.types.Value.TheVariants.{Null, Int, Text}
use Rattle.sqlite_schema.specs.Rules.{equal}
use Rattle.sqlite_schema.specs.declared.schema.Column.{Column}

-- the values of two keys are equal, column by column
abbrev pub same_values : Row → Row → Bool
same_values [] [] = true
same_values (a ∷ more) (b ∷ others) = equal Binary a b && same_values more others
same_values [] (b ∷ others) = false
same_values (a ∷ more) [] = false

-- a column takes the value as it is
abbrev pub fits : Kind → Value → Bool
fits kind.Integer Null = true
fits kind.Integer (Int n) = true
fits kind.Text Null = true
fits kind.Text (Text t) = true
fits _ _ = false

-- each column of a row
abbrev pub fit : List Column → Row → Bool
fit [] [] = true
fit (c ∷ cs) (v ∷ vs) = fits c.kind v && fit cs vs
fit [] (v ∷ vs) = false
fit (c ∷ cs) [] = false

-- The first n columns of a table are a key, and the others a value. The keys have an order, by which they are
-- equal where their columns are.
pub record Codes {K X : Type 0} (cmp : K → K → Ordering) (columns : List Column) (n : ℕ) (key : K → Row)
    (value : X → Row) : Type 0 where
  pub total : IsTotalOrder cmp
  pub exact : IsAntisymmetric cmp
  pub long : (k : K) → length (key k) ≡ n
  pub same : (q k : K) → same_values (key q) (key k) ≡ eq_by_cmp cmp q k
  pub value_back : (x y : X) → value x ≡ value y → x ≡ y
  pub fit : (k : K) (x : X) → fit columns (key k ++ value x) ≡ true

-- behind its rowid a row is its key and its value
abbrev pub row_of : {K X : Type 0} → (K → Row) → (X → Row) → K → X → Row
row_of key value k x = key k ++ value x
