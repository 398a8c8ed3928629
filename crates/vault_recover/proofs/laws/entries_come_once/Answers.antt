use Rattle.vault_recover.proofs.OneEntry.{come_once}
use Rattle.vault_recover.proofs.laws.entries_come_once.Goals as goal

pub returns : goal.returns
returns c = come_once
