use Rattle.std.proofs.Common.{refl}
use Rattle.vault_tables.proofs.Calls.{turns, turns_in_each}
use Rattle.vault_tables.proofs.Statements.{pointing_added}
use Rattle.vault_tables.proofs.entries.add_pointing.Goals as goal

pub returns : goal.returns
returns g c = record {
  same_reference = cc;
  done = turns_in_each (λ v.
      turns c.step_with.ensures.steps c.step_with.ensures.ran (λ t base can run.
      let it = pointing_added t v (c.args.m.now, c.args.token.now) c.args.entry.now run in
      (_, (it.0, refl), it.1)));
}
