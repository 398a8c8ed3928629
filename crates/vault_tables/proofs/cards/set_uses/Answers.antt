use Rattle.std.proofs.Common.{◌≡◌, ap, sym, ◌∙◌, Some, int_cmp, w64}
use Rattle.std.proofs.lemmas.Int.{to_z-of_z}
use Rattle.sql_tables.specs.Rows.{put}
use Rattle.sql_tables.proofs.Calls.{small}
use Rattle.vault_schema.specs.declared.rows.Card.{Card}
use Rattle.vault_tables.proofs.Calls.{turns, turns_in_each}
use Rattle.vault_tables.proofs.Statements.{card_used}
use Rattle.vault_tables.proofs.cards.set_uses.Goals as goal

pub returns : goal.returns
returns g c = record {
  same_reference = cc;
  done = turns_in_each (λ v.
      turns c.step.ensures.steps c.step.ensures.ran (λ t base can run. (
        record t { cards = put int_cmp t.cards c.args.id (Some (record can.0 { uses = c.args.uses })) },
        λ d there.
            let same : can.0 ≡ d = (let both : Some can.0 ≡ Some d = sym can.1 ∙ there in cc) in
            ap (λ (x : Card). record t {
              cards = put int_cmp t.cards c.args.id
                  (Some (record x { uses = c.args.uses }));
            })
            same,
        card_used t v c.args.id can.0 can.1 c.args.uses
            (rw (small _ c.requires, to_z-of_z w64 c.args.id c.ranges.id) at
            (rw (c.params-to_sql.ensures, c.params-to_sql-2.ensures) at run)),
      )));
}
