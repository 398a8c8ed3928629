use Rattle.vault_tables.proofs.Kept.{lives_kept, told_makes}
use Rattle.vault_tables.proofs.merchants.set_lives.Goals as goal

pub returns-then-branch : goal.returns-then-branch
returns-then-branch g c = record {
  same_reference = cc;
  done = lives_kept c.args.m.now c.args.x.now c.in_ok-has_lives.ensures.done c.if-branch.true;
}

pub returns : goal.returns
returns g c = record {
  same_reference = cc;
  done = told_makes c.in_ok-has_lives.ensures.done c.in_ok-put.ensures.done;
}
