use Rattle.vault_sql.proofs.KnownWrites.{makes_if}
use Rattle.vault_sql.proofs.transaction.raise_count.Goals as goal

pub returns-in-Made : goal.returns-in-Made
returns-in-Made g c = record { same_reference = cc; done = rw (c.in-Made.is) c.raise_made.ensures.done }

pub returns-in_default : goal.returns-in_default
returns-in_default g c = record {
  same_reference = cc;
  done =
      makes_if (rw (c.merchant_text.ensures, c.number.ensures) at c.raise.ensures.done) (λ h can. can.1);
}
