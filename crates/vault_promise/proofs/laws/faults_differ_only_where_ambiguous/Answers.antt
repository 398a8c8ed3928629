use Rattle.vault_promise.proofs.Faults.{faults_differ}
use Rattle.vault_promise.proofs.laws.faults_differ_only_where_ambiguous.Goals as goal

pub returns : goal.returns
returns c = faults_differ
