use Rattle.std.proofs.Common.{w64}
use Rattle.std.proofs.lemmas.Int.{to_z-of_z}
use Rattle.vault_tables.proofs.Calls.{turns_as, turns_in_each}
use Rattle.vault_tables.proofs.CardUses.{less_used, not_used}
use Rattle.vault_tables.proofs.cards.use_less.Goals as goal

pub returns-in_ok-set_uses : goal.returns-in_ok-set_uses
returns-in_ok-set_uses g c = record {
  same_reference = cc;
  done = turns_in_each (λ v.
      turns_as (rw (to_z-of_z w64 c.args.id c.ranges.id) at (c.in_ok-set_uses.ensures.done.each v))
      (λ t can. (can.0, can.1)) (λ t new can mid.
      less_used t new c.args.id c.args.uses can.0 can.1 can.2 c.if-uses-gt1.true (mid can.0 can.1)));
}

pub returns-in_ok-drop_card : goal.returns-in_ok-drop_card
returns-in_ok-drop_card g c = record {
  same_reference = cc;
  done = turns_in_each (λ v.
      turns_as (rw (to_z-of_z w64 c.args.id c.ranges.id) at (c.in_ok-drop_card.ensures.done.each v))
      (λ t can. tt)
      (λ t new can gone.
      not_used t new c.args.id c.args.uses can.0 can.1 can.2 c.if-uses-gt1.false gone));
}
