use Rattle.vault_promise.proofs.Telling.{faults_tell}
use Rattle.vault_promise.proofs.laws.faults_tell_no_number.Goals as goal

pub returns : goal.returns
returns c = faults_tell
