use Rattle.vault_tables.proofs.Calls.{makes_then}
use Rattle.vault_sql.proofs.transaction.write_caller.Goals as goal

pub returns : goal.returns
returns g c = record {
  same_reference = cc;
  done =
      makes_then c.in_ok-write_record.ensures.done c.write_right.ensures.done (λ h any. any) (λ h any. any);
}
