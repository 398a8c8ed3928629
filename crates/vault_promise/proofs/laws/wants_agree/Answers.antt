use Rattle.vault_routes.proofs.WantedCommands.{wants_one}
use Rattle.vault_promise.proofs.laws.wants_agree.Goals as goal

pub returns : goal.returns
returns c = wants_one
