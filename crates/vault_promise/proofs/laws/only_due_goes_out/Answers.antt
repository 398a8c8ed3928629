use Rattle.vault_promise.proofs.Asking.{only_due_out}
use Rattle.vault_promise.proofs.laws.only_due_goes_out.Goals as goal

pub returns : goal.returns
returns c = only_due_out
