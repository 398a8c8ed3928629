use Rattle.vault_tables.proofs.Calls.{turns_in_each, turns_told}
use Rattle.vault_tables.proofs.CardUses.{card_first, more_used}
use Rattle.vault_tables.proofs.cards.use_known.Goals as goal

pub returns-in-Some : goal.returns-in-Some
returns-in-Some g c = record {
  same_reference = cc;
  done = turns_in_each (λ v.
      let first = rw (c.deref.ensures.value) at c.in-Some.ensures.value in
      turns_told (c.in_ok-rows.ensures.done.each v) (c.use_again.ensures.done.each v)
      (λ t can told.
      let it = card_first c.in_ok-rows.rows.items t.cards c.args.m.now c.args.number.now c.in-Some.row.now
      told
      first
      in
      (it.0, it.1, it.2.there, it.3))
      (λ id t new can told used.
      let it = card_first c.in_ok-rows.rows.items t.cards c.args.m.now c.args.number.now c.in-Some.row.now
      told
      first
      in
      let made = used it.0 it.1 it.2.there it.3 in
      rw (made.0) (more_used t new it.0 it.1 c.args.m.now c.args.number.now it.2 made.1)));
}
