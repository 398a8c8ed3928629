-- A table at its place in a schema, by a key that its one index guards; and how its rows are coded.
use Rattle.std.proofs.Common.{◌≡◌, ◌++◌, ◌∷◌, [], ℕ, List, true, length, suc, Ordering, Some, slice_get}
use Rattle.std.specs.Cmp.{IsTotalOrder}
use Rattle.std.specs.FinMap.{IsAntisymmetric}
use Rattle.std.specs.Ordering.{eq_by_cmp}
use Rattle.sqlite.specs.Order.{Row}
use Rattle.sqlite.specs.Schema.{Schema}
use Rattle.sqlite.specs.Table.{Table}
use Rattle.sqlite_schema.specs.declared.schema.Column.{Column}
use Rattle.sqlite_schema.specs.declared.schema.Index.{Index}
use Rattle.sqlite_value.specs.Keys.{plain}
use Rattle.sql_tables.proofs.ById.{ById}
use Rattle.sql_tables.proofs.Grown.{still_here}
use Rattle.sql_tables.specs.Codes.{Codes, fit, same_values}
use Rattle.sql_tables.specs.Maps.{Keyed}
use Rattle.sql_tables.specs.Schema.{Descriptor, columns_to, grown, guards_of, table_of}

-- the table stands there, and no index but one guards its key
abbrev pub placed : {K X : Type 0} {s : Schema} {cmp : K → K → Ordering} {key : K → Row} {value : X → Row}
    {index : Index} (table : Descriptor) (place more : ℕ)
    → Codes cmp table.columns (suc more) key value → slice_get s.tables place ≡ Some (table_of table)
    → guards_of s.indexes (table_of table) (columns_to (suc more)) ≡ index ∷ [] → index.order ≡ plain
    → index.columns ≡ columns_to (suc more) → Keyed s cmp key value
placed {index = index} table place more codes here only order columns = record {
  table = table;
  place = place;
  here = here;
  more = more;
  codes = codes;
  guarded = record { index = index; only = only; order = order; columns = columns };
}

-- a table is by its id in a schema with more tables and indexes behind, too
abbrev pub by_id_in_grown : {X : Type 0} {s : Schema} {columns : X → Row} → ById s columns
    → (tables : List Table) (indexes : List Index) → ById (grown s tables indexes) columns
by_id_in_grown {s = s} t tables indexes = record {
  table = t.table;
  place = t.place;
  here = still_here s.tables tables t.place (table_of t.table) t.here;
  fits = t.fits;
}

-- how a key of n columns is coded: its order, and that its columns tell it
pub record KeyCodes {K : Type 0} (cmp : K → K → Ordering) (n : ℕ) (key : K → Row) : Type 0 where
  pub total : IsTotalOrder cmp
  pub exact : IsAntisymmetric cmp
  pub long : (k : K) → length (key k) ≡ n
  pub same : (q k : K) → same_values (key q) (key k) ≡ eq_by_cmp cmp q k

-- so is a table of such keys, whose values are told by their columns
abbrev pub coded : {K X : Type 0} {cmp : K → K → Ordering} {n : ℕ} {key : K → Row} {value : X → Row}
    {columns : List Column} → KeyCodes cmp n key → ((x y : X) → value x ≡ value y → x ≡ y)
    → ((k : K) (x : X) → fit columns (key k ++ value x) ≡ true) → Codes cmp columns n key value
coded keys value_back fits = record {
  total = keys.total;
  exact = keys.exact;
  long = keys.long;
  same = keys.same;
  value_back = value_back;
  fit = fits;
}
