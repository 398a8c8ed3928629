use Rattle.vault_core.proofs.Isolated.{steps_isolated}
use Rattle.vault_core.proofs.laws.steps_are_isolated.Goals as goal

pub returns : goal.returns
returns c = steps_isolated
