use Rattle.vault_promise.proofs.Apart.{texts_isolated}
use Rattle.vault_promise.proofs.laws.texts_are_isolated.Goals as goal

pub returns : goal.returns
returns c = texts_isolated
