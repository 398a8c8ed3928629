use Rattle.std.proofs.Common.{◌≡◌, Some, arith, inl, inr, int_cmp, of_z, refl, to_z, w64}
use Rattle.std.proofs.lemmas.Int.{to_z-of_z}
use Rattle.sql_tables.specs.Rows.{put}
use Rattle.vault_tables.specs.CardUses.{card_made}
use Rattle.vault_tables.proofs.Calls.{turns_counted, turns_in_each}
use Rattle.vault_tables.proofs.Shown.{first_of_number}
use Rattle.vault_tables.proofs.Statements.{card_tried}
use Rattle.vault_tables.proofs.cards.add_card.Goals as goal

pub returns-then-changed-eq0 : goal.returns-then-changed-eq0
returns-then-changed-eq0 g c = record {
  same_reference = cc;
  done = turns_in_each (λ v.
      turns_counted c.in_ok-changed.ensures.goes_on.steps
      (rw (c.params-to_sql.ensures, c.params-to_sql-2.ensures) at c.in_ok-changed.ensures.ran)
      (λ t base can run is.
      elim (card_tried t v c.args.m.now c.args.number.now run) [
        | inl came ↦ absurd (omega (arith, is, came.0, c.if-changed-eq0.true))
        | inr still ↦ (t, refl, still.1)
      ]));
}

pub returns : goal.returns
returns g c = record {
  same_reference = cc;
  done = turns_in_each (λ v.
      let id = c.last_insert_rowid.result in
      let last = c.change.new.tx.conn.now.last_rowid in
      let back : to_z w64 (of_z w64 id) ≡ id = to_z-of_z w64 id
      (record { sfits = c.last_insert_rowid.type_inv }) in
      rw (back, c.last_insert_rowid.ensures) (turns_counted c.in_ok-changed.ensures.goes_on.steps
      (rw (c.params-to_sql.ensures, c.params-to_sql-2.ensures) at c.in_ok-changed.ensures.ran)
      (λ t base can run is.
      elim (card_tried t v c.args.m.now c.args.number.now run) [
        | inl came ↦ (
          record t { cards = put int_cmp t.cards last (Some (card_made c.args.m.now c.args.number.now)) },
          (
            first_of_number v t _ base last c.args.m.now c.args.number.now came.1.0 came.1.1,
            (came.1.0, refl),
          ),
          came.1.1,
        )
        | inr still ↦ absurd (omega (arith, is, still.0, c.if-changed-eq0.false))
      ])));
}
