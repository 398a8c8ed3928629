use Rattle.std.proofs.Common.{◌≡◌, to_z, of_z, w64}
use Rattle.std.proofs.lemmas.Int.{to_z-of_z}
use Rattle.vault_tables.proofs.Calls.{turns_as, turns_in_each}
use Rattle.vault_tables.proofs.CardUses.{owes_number}
use Rattle.vault_tables.proofs.cards.use_number.Goals as goal

pub returns-in_ok-use_card-in-Some : goal.returns-in_ok-use_card-in-Some
returns-in_ok-use_card-in-Some g c = record {
  same_reference = cc;
  done = turns_in_each (λ v.
      let n = c.in_ok-use_card-in-Some.field-0 in
      let fits = (rw (c.in_ok-use_card-in-Some.was) at c.use_card.type_inv).1.1.1.1.0.1 in
      let back : to_z w64 (of_z w64 n) ≡ n = to_z-of_z w64 n (record { sfits = fits }) in
      rw (back, c.in-Some.is)
      (turns_as (rw (c.as_str.ensures) at (c.in_ok-use_card-in-Some.ensures.done.each v)) (λ t can. tt)
      (λ t new can owes. owes_number owes)));
}
