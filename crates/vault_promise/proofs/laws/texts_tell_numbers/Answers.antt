use Rattle.vault_promise.proofs.Telling.{texts_tell}
use Rattle.vault_promise.proofs.laws.texts_tell_numbers.Goals as goal

pub returns : goal.returns
returns c = texts_tell
