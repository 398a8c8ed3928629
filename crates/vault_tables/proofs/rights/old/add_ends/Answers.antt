use Rattle.vault_tables.proofs.Inside.{four_texts}
use Rattle.vault_tables.proofs.OldRights.{ended}
use Rattle.vault_tables.proofs.rights.old.add_ends.Goals as goal

pub returns : goal.returns
returns g c =
    four_texts c.in_ok-step.ensures c.in_ok-step-2.ensures c.in_ok-step-3.ensures c.step-4.ensures
    (λ h base w. ended w)
