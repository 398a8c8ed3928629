use Rattle.vault_core.proofs.UnacceptedCommands.{left_out}
use Rattle.vault_core.proofs.laws.unaccepted_can_be_left_out.Goals as goal

pub returns : goal.returns
returns c = left_out
