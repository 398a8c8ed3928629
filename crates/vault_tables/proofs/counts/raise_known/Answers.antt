use Rattle.vault_tables.proofs.RaisedKnown.{up_after, up_at_once}
use Rattle.vault_tables.proofs.counts.raise_known.Goals as goal

pub returns-then-branch : goal.returns-then-branch
returns-then-branch g c = record {
  same_reference = cc;
  done =
      up_at_once (c.args.m.now, c.args.kind) c.in_ok-raise_by_rowid.ensures.done c.if-branch.true
      (λ h can t same. rw (same) can.0);
}

pub returns : goal.returns
returns g c = record {
  same_reference = cc;
  done =
      up_after (c.args.m.now, c.args.kind) c.in_ok-raise_by_rowid.ensures.done c.if-branch.false
      c.raise.ensures.done (λ h can t same. rw (same) can.0) (λ h can. can.1);
}
