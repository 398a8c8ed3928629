-- A table is its parts.
use Rattle.std.proofs.Common.{◌≡◌, sym, refl}
use Rattle.sqlite.specs.Table.{Table}
use Rattle.sql_tables.specs.Shapes.{IsTable, table_in}
use Rattle.sql_tables.specs.declared.shapes.TableShape.{TableShape}

-- a table with each part is the table that the shape says
pub whole : (t : Table) (shape : TableShape) → IsTable t shape → t ≡ table_in shape
whole t shape it =
    rw (sym it.named.name) (rw (sym it.named.tree) (rw (sym it.named.columns) (rw (sym it.keyed.rowid)
    (rw (sym it.keyed.primary) (rw (sym it.keyed.orders) (rw (sym it.keyed.uniques) (rw (sym it.bare.stamps)
    (rw (sym it.bare.uncounted) (rw (sym it.bare.checks) (rw (sym it.bare.references)
    (rw (sym it.bare.computed) refl)))))))))))

-- and the other way round
pub parts : (t : Table) (shape : TableShape) → t ≡ table_in shape → IsTable t shape
parts t shape same =
    rw same (record {
      named = record { name = refl; tree = refl; columns = refl };
      keyed = record { rowid = refl; primary = refl; uniques = refl; orders = refl };
      bare = record { checks = refl; references = refl; computed = refl; stamps = refl; uncounted = refl };
    })
