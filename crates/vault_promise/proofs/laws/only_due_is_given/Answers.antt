use Rattle.vault_promise.proofs.DueNumbers.{only_due}
use Rattle.vault_promise.proofs.laws.only_due_is_given.Goals as goal

pub returns : goal.returns
returns c = only_due
