-- Tables and schemas, as data.
use Rattle.sqlite.specs.Collation.TheVariants.{Binary}
use Rattle.std.specs.Prelude.{◌++◌, ◌∷◌, ◌&&◌, ◌==◌, true, false, not, zero, suc, [], Option, Some, None}
use Rattle.std.specs.Prelude.{filter, map, List, ℕ, Bool}
use Rattle.std.specs.List.{list_all}
use Rattle.sqlite.specs.declared.types.Value.TheVariants.{Null}
use Rattle.sqlite.specs.Table.{Table}
use Rattle.sqlite.specs.Schema.{Schema}
use Rattle.sqlite_schema.specs.declared.schema.Index.{Index}
use Rattle.sqlite_schema.specs.Rules.{guards}
use Rattle.sqlite_rules.specs.Keys.{aims}
use Rattle.sqlite.specs.Kind.{Kind}
use Rattle.sqlite_schema.specs.declared.schema.Column.{Column}
use Rattle.sqlite_value.specs.Keys.{plain}

-- a column of a STRICT table
abbrev pub column_of : Bool → List ℕ → Kind → Column
column_of not_null name kind =
    record {
      name = name;
      kind = kind;
      is_strict = true;
      not_null = not_null;
      default = Null;
      collation =
          Binary;
    }

-- a column that is never NULL
abbrev pub present : List ℕ → Kind → Column
present = column_of true

-- a column that may be NULL
abbrev pub optional : List ℕ → Kind → Column
optional = column_of false

-- What is to be said of a table: the rest is the same for all. `rowid` is the column that is the rowid, and
-- `key` has the columns of the key, counted from 1.
pub record Descriptor : Type 0 where
  pub name : List ℕ
  pub tree : ℕ
  pub columns : List Column
  pub rowid : Option ℕ
  pub primary : List ℕ
  pub uniques : List (List ℕ)

-- the table
abbrev pub table_of : Descriptor → Table
table_of d = record {
  name = d.name;
  tree = d.tree;
  columns = d.columns;
  key = d.rowid;
  primary = d.primary;
  uniques = d.uniques;
  orders = map (λ _. plain) d.uniques;
  checks = [];
  references = [];
  computed = [];
  stamps = record { places = []; terms = []; formats = [] };
  is_counted = false;
}

-- the numbers below n
abbrev pub below : ℕ → List ℕ
below zero = []
below (suc n) = 0 ∷ map (λ i. suc i) (below n)

-- the first n columns
abbrev pub columns_to : ℕ → List ℕ
columns_to n = map (λ i. suc i) (below n)

-- a table whose key is its first columns
abbrev pub keyed_by : ℕ → ℕ → List ℕ → List Column → Descriptor
keyed_by n tree name columns =
    record {
      name = name;
      tree = tree;
      columns = columns;
      rowid = None;
      primary = columns_to n;
      uniques =
          columns_to n ∷ [];
    }

-- the index that SQLite makes for a key
abbrev pub key_index : ℕ → List ℕ → ℕ → List ℕ → Index
key_index tree name table columns =
    record { name = name; tree = tree; table = table; columns = columns; order = plain; is_unique = true }

-- another index
abbrev pub plain_index : ℕ → List ℕ → ℕ → List ℕ → Index
plain_index tree name table columns =
    record { name = name; tree = tree; table = table; columns = columns; order = plain; is_unique = false }

-- a database without a table, an index or a view
abbrev pub no_schema : Schema
no_schema = record { tables = []; indexes = []; views = [] }

-- a schema with more tables and indexes behind
abbrev pub grown : Schema → List Table → List Index → Schema
grown s tables indexes =
    record { tables = s.tables ++ tables; indexes = s.indexes ++ indexes; views = s.views }

-- no tree comes twice
abbrev pub are_apart : List ℕ → Bool
are_apart [] = true
are_apart (n ∷ ns) = list_all (λ m. not (m == n)) ns && are_apart ns

-- a list has no item
abbrev pub is_none : {X : Type 0} → List X → Bool
is_none [] = true
is_none (x ∷ xs) = false

-- each table has a tree of its own and no foreign key; of a schema that is written out `refl` shows it
abbrev pub is_plain : Schema → Bool
is_plain s = are_apart (map (λ t. t.tree) s.tables) && list_all (λ t. is_none t.references) s.tables

-- the unique indexes of these columns of the table
abbrev pub guards_of : List Index → Table → List ℕ → List Index
guards_of indexes t key = filter (λ i. guards i t && aims (Some key) i.columns) indexes
