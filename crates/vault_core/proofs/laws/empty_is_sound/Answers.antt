use Rattle.vault_core.proofs.Empty.{sound-empty}
use Rattle.vault_core.proofs.laws.empty_is_sound.Goals as goal

pub returns : goal.returns
returns c = sound-empty
