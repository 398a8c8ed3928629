use Rattle.vault_sql.proofs.KnownWrites.{makes_if}
use Rattle.vault_sql.proofs.transaction.raise_made.Goals as goal

pub returns-in-Some : goal.returns-in-Some
returns-in-Some g c = record {
  same_reference = cc;
  done = rw (c.in-Some.is) (rw (c.merchant_text.ensures, c.number.ensures) at c.raise_known.ensures.done);
}

pub returns-in-None : goal.returns-in-None
returns-in-None g c = record {
  same_reference = cc;
  done =
      makes_if (rw (c.merchant_text-in-None.ensures, c.number-in-None.ensures) at c.raise.ensures.done)
      (λ h can. can.1);
}
