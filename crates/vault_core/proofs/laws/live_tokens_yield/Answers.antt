use Rattle.vault_core.proofs.TokenYields.{live_tokens_yield}
use Rattle.vault_core.proofs.laws.live_tokens_yield.Goals as goal

pub returns : goal.returns
returns c = live_tokens_yield
