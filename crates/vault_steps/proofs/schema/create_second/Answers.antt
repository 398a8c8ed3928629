use Rattle.vault_tables.proofs.SecondMaking.{makes_second as texts}
use Rattle.vault_steps.proofs.Making.{as_begun, last_index, table_made}
use Rattle.vault_steps.proofs.schema.create_second.Goals as goal

pub returns-clause-done : goal.returns-clause-done
returns-clause-done g c clean =
    let cards = table_made c.in_ok-step.ensures.steps c.in_ok-step.ensures.ran 6
    texts.for_cards (as_begun _ 6 _) in
    let pointing = table_made c.in_ok-step-2.ensures.steps c.in_ok-step-2.ensures.ran 7
    texts.for_entries cards in
    last_index c.step-3.result c.step-3.ensures.steps c.step-3.ensures.ran 8 texts.for_card texts.all
    pointing clean
