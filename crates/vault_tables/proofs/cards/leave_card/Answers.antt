use Rattle.std.proofs.Common.{w64}
use Rattle.std.proofs.lemmas.Int.{to_z-of_z}
use Rattle.vault_tables.proofs.Calls.{turns_in_each, turns_told}
use Rattle.vault_tables.proofs.CardUses.{uses_shown}
use Rattle.vault_tables.proofs.cards.leave_card.Goals as goal

pub returns-in-Some : goal.returns-in-Some
returns-in-Some g c = record {
  same_reference = cc;
  done = turns_in_each (λ v.
      turns_told (rw (to_z-of_z w64 c.args.id c.ranges.id) at (c.in_ok-rows.ensures.done.each v))
      (rw (to_z-of_z w64 c.args.id c.ranges.id) at (c.use_less.ensures.done.each v))
      (λ t can told.
      uses_shown _ c.in_ok-rows.rows.items c.in-Some.row.now _ told
      (rw (c.deref.ensures.value) at c.in-Some.ensures.value) c.in_ok-uses-in-Some.ensures.ok.1)
      (λ y t new can told owes. owes));
}
