use Rattle.std.proofs.Common.{◌≡◌, to_z, of_z, w64}
use Rattle.std.proofs.lemmas.Int.{to_z-of_z}
use Rattle.vault_tables.proofs.Calls.{turns_in_each, turns_so}
use Rattle.vault_tables.proofs.CardUses.{owes_no_more}
use Rattle.vault_tables.proofs.cards.leave_number.Goals as goal

pub returns-in-Some : goal.returns-in-Some
returns-in-Some g c = record {
  same_reference = cc;
  done = turns_in_each (λ v.
      let n = c.in-Some.id in
      let fits = (rw (c.in-Some.is) at c.well_formed.1.0).1.1.1.1.0.1 in
      let back : to_z w64 (of_z w64 n) ≡ n = to_z-of_z w64 n (record { sfits = fits }) in
      rw (c.in-Some.is)
      (turns_so (rw (back) at (c.leave_card.ensures.done.each v)) (λ it t new gone. owes_no_more gone)));
}
