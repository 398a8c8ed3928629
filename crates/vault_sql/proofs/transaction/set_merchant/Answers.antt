use Rattle.std.proofs.Common.{rules}
use Rattle.vault_sql.proofs.KnownWrites.{makes_as, makes_if, spared}
use Rattle.vault_sql.proofs.transaction.set_merchant.Goals as goal

pub returns-in-Some : goal.returns-in-Some
returns-in-Some g c = record {
  same_reference = cc;
  done = rw (c.in-Some.is) (spared c.args.m.now c.args.x.now c.in-Some.was (search rules));
}

pub returns-in_ok-put-in-Some-2 : goal.returns-in_ok-put-in-Some-2
returns-in_ok-put-in-Some-2 g c = record {
  same_reference = cc;
  done =
      makes_as (rw (c.merchant_text.ensures) at c.in_ok-put-in-Some-2.ensures.done)
      (λ h known. tt);
}

pub returns-in-None : goal.returns-in-None
returns-in-None g c = record {
  same_reference = cc;
  done = makes_if (rw (c.merchant_text-in-None.ensures) at c.set_lives.ensures.done) (λ h known. tt);
}
