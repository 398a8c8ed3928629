use Rattle.std.proofs.Common.{◌∙◌, sym}
use Rattle.vault_tables.proofs.Calls.{told_so}
use Rattle.vault_tables.proofs.Kept.{no_lives, same_lives}
use Rattle.vault_tables.proofs.merchants.has_lives.Goals as goal

pub returns-in-Some : goal.returns-in-Some
returns-in-Some g c = record {
  same_reference = cc;
  done =
      told_so c.in_ok-found.ensures.done (λ t is.
      same_lives (t.merchants c.args.m.now) _ c.args.x.now c.are_same.result c.are_same.ensures
      (sym c.in-Some.is ∙ is));
}

pub returns-in-None : goal.returns-in-None
returns-in-None g c = record {
  same_reference = cc;
  done =
      told_so c.in_ok-found.ensures.done (λ t is.
      no_lives (t.merchants c.args.m.now) c.args.x.now (sym c.in-None.is ∙ is));
}
