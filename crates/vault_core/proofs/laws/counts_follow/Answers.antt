use Rattle.vault_core.proofs.Counted.{counts_follow}
use Rattle.vault_core.proofs.laws.counts_follow.Goals as goal

pub returns : goal.returns
returns c = counts_follow
