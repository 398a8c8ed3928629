use Rattle.vault_promise.proofs.Clear.{messages_clear}
use Rattle.vault_promise.proofs.laws.messages_are_clear.Goals as goal

pub returns : goal.returns
returns c = messages_clear
