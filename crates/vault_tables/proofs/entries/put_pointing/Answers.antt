use Rattle.std.proofs.Common.{refl}
use Rattle.vault_tables.proofs.Calls.{turns, turns_in_each}
use Rattle.vault_tables.proofs.Statements.{pointing_put}
use Rattle.vault_tables.proofs.entries.put_pointing.Goals as goal

pub returns : goal.returns
returns g c = record {
  same_reference = cc;
  done = turns_in_each (λ v.
      turns c.step_with.ensures.steps c.step_with.ensures.ran (λ t base can run.
      (_, refl, pointing_put t v (c.args.m.now, c.args.token.now) c.args.entry.now run)));
}
