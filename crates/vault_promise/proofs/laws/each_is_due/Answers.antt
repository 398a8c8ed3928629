use Rattle.vault_promise.proofs.Asking.{each_due}
use Rattle.vault_promise.proofs.laws.each_is_due.Goals as goal

pub returns : goal.returns
returns c = each_due
