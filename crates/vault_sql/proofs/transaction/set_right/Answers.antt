use Rattle.vault_sql.proofs.transaction.set_right.Goals as goal

pub returns-in-Some : goal.returns-in-Some
returns-in-Some g c = record {
  same_reference = cc;
  done = rw (c.in-Some.is) (rw (c.caller_text.ensures, c.merchant_text.ensures) at c.give.ensures.done);
}

pub returns-in-None : goal.returns-in-None
returns-in-None g c = record {
  same_reference = cc;
  done =
      rw (c.in-None.is)
      (rw (c.caller_text-in-None.ensures, c.merchant_text-in-None.ensures) at c.take.ensures.done);
}
