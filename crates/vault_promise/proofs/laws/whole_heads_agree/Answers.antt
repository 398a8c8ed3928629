use Rattle.vault_promise.proofs.Faults.{whole_heads}
use Rattle.vault_promise.proofs.laws.whole_heads_agree.Goals as goal

pub returns : goal.returns
returns c = whole_heads
