use Rattle.vault_recover.proofs.Steps.{every_sound}
use Rattle.vault_recover.proofs.laws.every_vault_is_sound.Goals as goal

pub returns : goal.returns
returns c = every_sound
