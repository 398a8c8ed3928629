use Rattle.vault_core.proofs.RunsIsolated.{runs_isolated}
use Rattle.vault_core.proofs.laws.runs_are_isolated.Goals as goal

pub returns : goal.returns
returns c = runs_isolated
