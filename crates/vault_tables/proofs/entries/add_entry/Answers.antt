use Rattle.vault_tables.proofs.Calls.{makes_in_each}
use Rattle.vault_tables.proofs.WrittenEntry.{entry_added}
use Rattle.vault_tables.proofs.entries.add_entry.Goals as goal

pub returns : goal.returns
returns g c = record {
  same_reference = cc;
  done = makes_in_each (λ v.
      entry_added (c.args.m.now, c.args.token.now) c.args.entry.now (c.in_ok-card.ensures.done.each v)
      (rw (c.pointing_to.ensures) at (c.in_ok-add_pointing.ensures.done.each v)));
}
