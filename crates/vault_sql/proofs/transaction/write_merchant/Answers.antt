use Rattle.vault_tables.proofs.Calls.{makes_then}
use Rattle.vault_sql.proofs.transaction.write_merchant.Goals as goal

pub returns : goal.returns
returns g c = record {
  same_reference = cc;
  done =
      makes_then
      (makes_then c.in_ok-write_lives.ensures.done c.in_ok-write_count.ensures.done (λ h can. can.0.lives)
      (λ h can. (can.0.made, can.1))) c.write_entry.ensures.done (λ h can. can) (λ h can. tt);
}
