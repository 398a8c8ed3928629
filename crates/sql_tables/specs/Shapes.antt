-- The parts of a schema that shapes write down.
use Rattle.std.specs.Prelude.{◌≡◌, [], map, false, List, ℕ}
use Rattle.std.specs.Borrow.{Bor}
use Rattle.sqlite_schema.specs.declared.schema.Column.{Column}
use Rattle.sqlite_schema.specs.declared.schema.Index.{Index}
use Rattle.sqlite.specs.Table.{Table}
use Rattle.sqlite.specs.Schema.{Schema}
use Rattle.sqlite_value.specs.Keys.{plain}
use Rattle.sql_tables.specs.Schema.{present, optional, table_of}
use Rattle.sql_tables.specs.declared.shapes.ColumnShape.{ColumnShape}
use Rattle.sql_tables.specs.declared.shapes.ColumnShape.TheVariants.{Present, Optional}
use Rattle.sql_tables.specs.declared.shapes.TableShape.{TableShape}
use Rattle.sql_tables.specs.declared.shapes.IndexShape.{IndexShape}
use Rattle.sql_tables.specs.declared.shapes.SchemaShape.{SchemaShape}

-- the column
abbrev pub column_in : ColumnShape → Column
column_in (Present name kind) = present name.now kind
column_in (Optional name kind) = optional name.now kind

-- the columns of a key
abbrev pub key_in : Bor (List ℕ) → List ℕ
key_in key = key.now

-- a table of no checks, references, computed columns, stamps or counter
pub record IsBare (t : Table) : Type 0 where
  pub checks : t.checks ≡ []
  pub references : t.references ≡ []
  pub computed : t.computed ≡ []
  pub stamps : t.stamps ≡ record { places = []; terms = []; formats = [] }
  pub uncounted : t.is_counted ≡ false

-- a table with the name, the tree and the columns that the shape says
pub record IsNamed (t : Table) (shape : TableShape) : Type 0 where
  pub name : t.name ≡ shape.name.now
  pub tree : t.tree ≡ shape.tree
  pub columns : t.columns ≡ map column_in shape.columns.now

-- a table with the keys that the shape says
pub record IsKeyed (t : Table) (shape : TableShape) : Type 0 where
  pub rowid : t.key ≡ shape.rowid
  pub primary : t.primary ≡ shape.primary.now
  pub uniques : t.uniques ≡ map key_in shape.uniques.now
  pub orders : t.orders ≡ map (λ _. plain) (map key_in shape.uniques.now)

-- the table
abbrev pub table_in : TableShape → Table
table_in t = table_of (record {
  name = t.name.now;
  tree = t.tree;
  columns = map column_in t.columns.now;
  rowid = t.rowid;
  primary = t.primary.now;
  uniques = map key_in t.uniques.now;
})

-- a table with all that the shape says
pub record IsTable (t : Table) (shape : TableShape) : Type 0 where
  pub named : IsNamed t shape
  pub keyed : IsKeyed t shape
  pub bare : IsBare t

-- the index
abbrev pub index_in : IndexShape → Index
index_in i = record {
  name = i.name.now;
  tree = i.tree;
  table = i.table;
  columns = i.columns.now;
  order = plain;
  is_unique = i.is_unique;
}

-- the schema
abbrev pub schema_in : SchemaShape → Schema
schema_in s = record { tables = map table_in s.tables.now; indexes = map index_in s.indexes.now; views = [] }
