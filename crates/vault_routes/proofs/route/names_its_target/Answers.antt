use Rattle.vault_routes.proofs.NameLemmas.{names_its_target}
use Rattle.vault_routes.proofs.route.names_its_target.Goals as goal

pub returns : goal.returns
returns c = names_its_target
