-- A table is by its key in a schema with more tables and indexes behind, too.
use Rattle.std.proofs.Common.{◌≡◌, ◌++◌, ◌∷◌, [], ℕ, zero, suc, List, Some, ◌∙◌, slice_get}
use Rattle.std.proofs.Common.{Ordering}
use Rattle.std.proofs.lemmas.List.Elements.{filter-append}
use Rattle.sqlite.specs.Order.{Row}
use Rattle.sqlite.specs.Schema.{Schema}
use Rattle.sqlite.specs.Table.{Table}
use Rattle.sqlite_schema.specs.declared.schema.Index.{Index}
use Rattle.sql_tables.specs.Schema.{columns_to, grown, guards_of, table_of}
use Rattle.sql_tables.specs.Maps.{IsGuarded, Keyed}

pub still_here : {X : Type 0} (xs ys : List X) (i : ℕ) (x : X) → slice_get xs i ≡ Some x
    → slice_get (xs ++ ys) i ≡ Some x
still_here [] ys i x h = absurd cc
still_here (z ∷ xs) ys zero x h = h
still_here (z ∷ xs) ys (suc i) x h = still_here xs ys i x h

-- the guard of a key stays the only one, where no index behind guards it
pub guarded_in_grown : (own : List Index) {t : Table} {key : List ℕ} → IsGuarded own t key
    → (indexes : List Index) → guards_of indexes t key ≡ [] → IsGuarded (own ++ indexes) t key
guarded_in_grown own guard indexes none = record {
  index = guard.index;
  only = filter-append _ own indexes ∙ (λ i. guard.only i ++ none i);
  order = guard.order;
  columns = guard.columns;
}

-- no index behind guards the key
abbrev pub keyed_in_grown : {K X : Type 0} {s : Schema} {cmp : K → K → Ordering} {key : K → Row} {value : X
    → Row}
    (t : Keyed s cmp key value) (tables : List Table) (indexes : List Index)
    → guards_of indexes (table_of t.table) (columns_to (suc t.more)) ≡ []
    → Keyed (grown s tables indexes) cmp key value
keyed_in_grown {s = s} t tables indexes none = record {
  table = t.table;
  place = t.place;
  here = still_here s.tables tables t.place (table_of t.table) t.here;
  more = t.more;
  codes = t.codes;
  guarded = guarded_in_grown s.indexes t.guarded indexes none;
}
