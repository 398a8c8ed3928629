use Rattle.std.proofs.Common.{◌≡◌, ap, ◌∙◌, Some, ◌+◌, int_cmp, to_z, of_z, w64}
use Rattle.std.proofs.lemmas.Int.{to_z-of_z}
use Rattle.sql_tables.specs.Rows.{put}
use Rattle.vault_tables.proofs.Calls.{turns_as, turns_in_each}
use Rattle.vault_tables.proofs.CardUses.{count_shown, id_shown}
use Rattle.vault_tables.proofs.cards.use_again.Goals as goal

pub returns : goal.returns
returns g c = record {
  same_reference = cc;
  done = turns_in_each (λ v.
      let back : to_z w64 (of_z w64 c.in_ok-id.id) ≡ c.in_ok-id.id =
      to_z-of_z w64 c.in_ok-id.id (record { sfits = (rw (c.in_ok-id.was) at c.get.type_inv).1.1.1.1.0.1 }) in
      turns_as (c.in_ok-set_uses.ensures.done.each v)
      (λ t can.
      let same = back ∙ id_shown c.args.row.now c.in_ok-id.id can.0 can.1 c.in_ok-id.ensures.ok.1 can.3 in
      (can.1, ap t.cards same ∙ can.2))
      (λ t new can mid id card there shown.
      let same = back ∙ id_shown c.args.row.now c.in_ok-id.id id card c.in_ok-id.ensures.ok.1 shown in
      let many = count_shown c.args.row.now c.in_ok-uses.uses id card c.in_ok-uses.ensures.ok.1 shown in (
        same,
        mid card (ap t.cards same ∙ there) ∙ (λ i. record t {
          cards = put int_cmp t.cards (same i) (Some (record card { uses = many i + 1 }));
        }),
      )));
}
