use Rattle.std.proofs.Common.{arith, ◌+◌}
use Rattle.sql_tables.proofs.Calls.{small}
use Rattle.vault_tables.proofs.RaisedKnown.{not_set, row_set}
use Rattle.vault_tables.proofs.counts.raise_by_rowid.Goals as goal

pub returns-then-known-ge-GREATEST : goal.returns-then-known-ge-GREATEST
returns-then-known-ge-GREATEST g c = record {
  same_reference = cc;
  done = not_set (
    c.args.m.now,
    c.args.kind,
  );
}

pub returns : goal.returns
returns g c = record {
  same_reference = cc;
  done =
      row_set (c.args.m.now, c.args.kind) c.in_ok-changed.changed c.args.known.total _
      c.in_ok-changed.ensures.goes_on.steps
      (rw (
        c.params-to_sql.ensures,
        c.params-to_sql-2.ensures,
        c.params-to_sql-3.ensures,
        c.params-to_sql-4.ensures,
        small c.args.kind (omega (arith, c.ranges.kind)),
        small (c.args.known.total + 1) (omega arith),
      )
      at
      c.in_ok-changed.ensures.ran);
}
