use Rattle.vault_promise.proofs.Faults.{there_differ}
use Rattle.vault_promise.proofs.laws.ambiguous_fits_two.Goals as goal

pub returns : goal.returns
returns c = there_differ
