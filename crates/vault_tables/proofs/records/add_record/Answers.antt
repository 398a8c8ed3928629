use Rattle.std.proofs.Common.{refl}
use Rattle.sql_tables.proofs.Calls.{small}
use Rattle.vault_tables.proofs.Calls.{small_use}
use Rattle.vault_tables.proofs.Made.{makes}
use Rattle.vault_tables.proofs.CountStatements.{record_added}
use Rattle.vault_tables.proofs.records.add_record.Goals as goal

pub returns : goal.returns
returns g c = record {
  same_reference = cc;
  done =
      makes c.step.ensures.steps c.step.ensures.ran (λ h. refl) (λ h cards pointing base can run.
      record_added (c.args.caller.now, c.args.request) c.args.answered.now
      (rw (small _ (small_use c.args.answered.now.usage), small _ c.requires) at
      (rw (c.as_str-token.ensures, c.number-usage.ensures) at
      (rw (c.params-to_sql-4.ensures, c.params-to_sql-5.ensures, c.merchant_text-m.ensures) at
      (rw (c.params-to_sql.ensures, c.params-to_sql-2.ensures, c.params-to_sql-3.ensures) at
      run)))));
}
