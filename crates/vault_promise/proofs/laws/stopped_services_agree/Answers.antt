use Rattle.vault_promise.proofs.Stopped.{stopped}
use Rattle.vault_promise.proofs.laws.stopped_services_agree.Goals as goal

pub returns : goal.returns
returns g c s s' w w' v v' t t' x x' u u' = stopped _ _
