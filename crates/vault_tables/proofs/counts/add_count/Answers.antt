use Rattle.std.proofs.Common.{arith, refl}
use Rattle.sql_tables.proofs.Calls.{small}
use Rattle.vault_tables.proofs.Calls.{turns}
use Rattle.vault_tables.proofs.CountStatements.{count_added}
use Rattle.vault_tables.proofs.counts.add_count.Goals as goal

pub returns : goal.returns
returns g c = record {
  same_reference = cc;
  done =
      turns c.step.ensures.steps c.step.ensures.ran (λ t base none run. (
        _,
        refl,
        count_added (c.args.m.now, c.args.kind) none
            (rw (
              c.params-to_sql.ensures,
              c.params-to_sql-2.ensures,
              small c.args.kind (omega (arith, c.ranges.kind)),
            ) at
            run),
      ));
}
