-- A table of a schema as a map by its key.
use Rattle.std.specs.Prelude.{◌≡◌, ℕ, zero, suc, List, [], ◌∷◌, Some, slice_get}
use Rattle.std.specs.declared.cmp.Ordering.{Ordering}
use Rattle.sqlite.specs.Order.{Row}
use Rattle.sqlite.specs.Schema.{Schema}
use Rattle.sqlite.specs.Table.{Table}
use Rattle.sqlite_schema.specs.declared.schema.Index.{Index}
use Rattle.sqlite_value.specs.Keys.{plain}
use Rattle.sql_tables.specs.Codes.{Codes}
use Rattle.sql_tables.specs.Schema.{Descriptor, table_of, columns_to, guards_of}
use Rattle.sql_tables.specs.States.{Claim}

-- the one unique index of these columns, which goes by bytes
pub record IsGuarded (indexes : List Index) (t : Table) (key : List ℕ) : Type 0 where
  pub index : Index
  pub only : guards_of indexes t key ≡ index ∷ []
  pub order : index.order ≡ plain
  pub columns : index.columns ≡ key

-- a table of a schema whose first columns are its key
pub record Keyed {K X : Type 0} (s : Schema) (cmp : K → K → Ordering) (key : K → Row)
    (value : X → Row) : Type 0
  where
    pub table : Descriptor
    pub place : ℕ
    pub here : slice_get s.tables place ≡ Some (table_of table)
    pub more : ℕ
    pub codes : Codes cmp table.columns (suc more) key value
    pub guarded : IsGuarded s.indexes (table_of table) (columns_to (suc more))

-- what is said of a table at a place
abbrev pub claim_at : List Claim → ℕ → Claim
claim_at [] place rows = Unit {0}
claim_at (P ∷ Ps) zero rows = P rows
claim_at (P ∷ Ps) (suc place) rows = claim_at Ps place rows
