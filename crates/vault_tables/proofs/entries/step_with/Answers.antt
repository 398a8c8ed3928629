use Rattle.std.proofs.Common.{arith}
use Rattle.sql_tables.proofs.Calls.{small}
use Rattle.vault_tables.proofs.Calls.{small_use, id_bound}
use Rattle.vault_tables.proofs.Bounds.{number_bound}
use Rattle.vault_tables.proofs.entries.step_with.Goals as goal

pub returns : goal.returns
returns g c = record {
  same_reference = c.step.ensures.same_reference;
  steps = c.step.ensures.steps;
  ran =
      rw (small _ c.requires) at
      (rw (small c.args.entry.now.birth (omega (arith, c.seconds-birth.ensures.moment))) at
      (rw (c.seconds-birth.ensures.value) at
      (rw (c.number-usage.ensures, small _ (small_use c.args.entry.now.usage)) at
      (rw (id_bound c.args.entry.now.card, number_bound c.args.entry.now.revoked) at
      (rw (c.to_sql-3.ensures, c.to_sql-4.ensures, c.to_sql-5.ensures, c.moment_value.ensures) at
      (rw (c.to_sql.ensures, c.to_sql-2.ensures, c.id_value.ensures) at
      c.step.ensures.ran))))));
}
