use Rattle.std.proofs.Common.{◌≡◌, of_z, to_z, w64}
use Rattle.std.proofs.lemmas.Int.{to_z-of_z}
use Rattle.vault_tables.proofs.Calls.{turns_as, turns_in_each, turns_still}
use Rattle.vault_tables.proofs.CardUses.{newly_used}
use Rattle.vault_tables.proofs.cards.use_card.Goals as goal

pub returns-in-Some : goal.returns-in-Some
returns-in-Some g c = record {
  same_reference = cc;
  done = turns_in_each (λ v.
      let id = c.in-Some.id in
      let given = (rw (c.in_ok-id.was) at c.add_card.type_inv).1.1.1.1.0.1 in
      let fits = (rw (c.in-Some.is) at given).1.1.1.0.1 in
      let back : to_z w64 (of_z w64 id) ≡ id = to_z-of_z w64 id (record { sfits = fits }) in
      rw (back) (turns_as (rw (c.in-Some.is) at (c.in_ok-id.ensures.done.each v)) (λ t can. tt)
      (λ t new can added.
      newly_used t new id c.args.m.now c.args.number.now added.0 added.1.0 added.1.1)));
}

pub returns-in-None : goal.returns-in-None
returns-in-None g c = record {
  same_reference = cc;
  done = turns_in_each (λ v.
      turns_still (rw (c.in-None.is) at (c.in_ok-id.ensures.done.each v)) (λ t new same. same)
      (c.use_known.ensures.done.each v));
}
