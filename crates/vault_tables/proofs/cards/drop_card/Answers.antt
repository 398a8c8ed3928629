use Rattle.std.proofs.Common.{refl, w64}
use Rattle.std.proofs.lemmas.Int.{to_z-of_z}
use Rattle.vault_tables.proofs.Calls.{turns, turns_in_each}
use Rattle.vault_tables.proofs.Statements.{card_dropped}
use Rattle.vault_tables.proofs.cards.drop_card.Goals as goal

pub returns : goal.returns
returns g c = record {
  same_reference = cc;
  done = turns_in_each (λ v.
      turns c.step.ensures.steps c.step.ensures.ran (λ t base can run. (
        _,
        refl,
        card_dropped t v c.args.id
            (rw (c.params-to_sql.ensures, to_z-of_z w64 c.args.id c.ranges.id) at run),
      )));
}
