use Rattle.vault_promise.proofs.Service.{services}
use Rattle.vault_promise.proofs.laws.services_agree.Goals as goal

pub returns : goal.returns
returns g c s s' w w' v v' t t' x x' u u' = services _ _
