use Rattle.vault_tables.proofs.FirstMaking.{makes_first as texts}
use Rattle.vault_steps.proofs.Making.{all_tables, first_made, index_made, table_made}
use Rattle.vault_steps.proofs.schema.create_first.Goals as goal

pub returns-clause-done : goal.returns-clause-done
returns-clause-done g c =
    let vault = first_made c.in_ok-step.ensures.steps c.in_ok-step.ensures.ran texts.for_vault in
    let merchants = table_made c.in_ok-step-2.ensures.steps c.in_ok-step-2.ensures.ran 1
    texts.for_merchants vault in
    let counts = table_made c.in_ok-step-3.ensures.steps c.in_ok-step-3.ensures.ran 2
    texts.for_counts merchants in
    let entries = table_made c.in_ok-step-4.ensures.steps c.in_ok-step-4.ensures.ran 3
    texts.for_entries counts in
    let number = index_made c.in_ok-step-5.ensures.steps c.in_ok-step-5.ensures.ran 4 texts.for_number
    entries in
    let records = table_made c.in_ok-step-6.ensures.steps c.in_ok-step-6.ensures.ran 4
    texts.for_records number in
    let rights = table_made c.in_ok-step-7.ensures.steps c.in_ok-step-7.ensures.ran 5
    texts.for_rights records in
    all_tables 6 texts.all _ _ rights
