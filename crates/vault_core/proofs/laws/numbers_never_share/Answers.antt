use Rattle.vault_core.proofs.Kept.{never_share}
use Rattle.vault_core.proofs.laws.numbers_never_share.Goals as goal

pub returns : goal.returns
returns c = never_share
