use Rattle.std.proofs.Common.{arith}
use Rattle.sql_tables.proofs.Calls.{small}
use Rattle.vault_tables.proofs.Raised.{row_raised}
use Rattle.vault_tables.proofs.counts.raise_row.Goals as goal

pub returns : goal.returns
returns g c = record {
  same_reference = cc;
  done =
      row_raised (c.args.m.now, c.args.kind) c.in_ok-changed.changed c.in_ok-changed.ensures.goes_on.steps
      (rw (
        c.params-to_sql.ensures,
        c.params-to_sql-2.ensures,
        small c.args.kind
            (omega (arith, c.ranges.kind)),
      )
      at
      c.in_ok-changed.ensures.ran);
}
