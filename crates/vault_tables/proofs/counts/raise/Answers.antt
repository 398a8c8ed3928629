use Rattle.vault_tables.proofs.Raised.{raised_anew, raised_at_once}
use Rattle.vault_tables.proofs.counts.raise.Goals as goal

pub returns-then-branch : goal.returns-then-branch
returns-then-branch g c = record {
  same_reference = cc;
  done = raised_at_once (c.args.m.now, c.args.kind) c.in_ok-raise_row.ensures.done c.if-branch.true;
}

pub returns : goal.returns
returns g c = record {
  same_reference = cc;
  done =
      raised_anew (c.args.m.now, c.args.kind) c.in_ok-raise_row.ensures.done c.if-branch.false
      c.add_count.ensures.done;
}
