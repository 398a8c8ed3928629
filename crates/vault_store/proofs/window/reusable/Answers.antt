use Rattle.std.proofs.Common.{sym, ap, ◌∙◌}
use Rattle.vault_core.specs.Repeats.{current, reusable}
use Rattle.vault_store.proofs.Held.{held_pair, held_none}
use Rattle.vault_store.proofs.window.reusable.Goals as goal

pub returns-in-Some-2 : goal.returns-in-Some-2
returns-in-Some-2 g c =
    let read = c.in_ok-entry-in-Multi.ensures in
    let first = c.in_ok-token-in-Multi.ensures in
    record {
      disk_honest = λ honest. first.disk_honest (read.disk_honest honest);
      told = λ honest V held sound at.
          let a = c.args.asked.now in
          let token = sym c.in-Some.is ∙ first.told (read.disk_honest honest) V held sound at in
          let entry = sym (read.told honest V (first.kept V held) sound) ∙ c.in-Some-2.is in
          sym (ap (λ u. reusable u (current V a.merchant a.pan c.args.at)) c.in-Multi.is
          ∙ held_pair V a.merchant a.pan c.args.at c.in-Some.token c.in-Some-2.entry token entry);
      kept = λ V held. read.kept V (first.kept V held);
      crash = λ honest V held. read.crash honest V (first.kept V held);
      failing = read.failing ∙ first.failing;
      allowed = tt;
    }

pub returns-in-None : goal.returns-in-None
returns-in-None g c =
    let read = c.in_ok-entry-in-Multi.ensures in
    let first = c.in_ok-token-in-Multi.ensures in
    record {
      disk_honest = λ honest. first.disk_honest (read.disk_honest honest);
      told = λ honest V held sound at.
          let a = c.args.asked.now in
          let token = sym c.in-Some.is ∙ first.told (read.disk_honest honest) V held sound at in
          let entry = sym (read.told honest V (first.kept V held) sound) ∙ c.in-None.is in
          absurd (held_none V a.merchant a.pan c.args.at c.in-Some.token token entry);
      kept = λ V held. read.kept V (first.kept V held);
      crash = λ honest V held. read.crash honest V (first.kept V held);
      failing = read.failing ∙ first.failing;
      allowed = tt;
    }
