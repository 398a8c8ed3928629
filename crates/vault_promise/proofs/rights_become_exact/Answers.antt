use Rattle.vault_promise.proofs.Exact.{rights_become_exact}
use Rattle.vault_promise.proofs.rights_become_exact.Goals as goal

pub returns : goal.returns
returns c = rights_become_exact
