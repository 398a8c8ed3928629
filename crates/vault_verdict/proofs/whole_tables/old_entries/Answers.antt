use Rattle.std.proofs.Common.{[]}
use Rattle.vault_verdict.proofs.whole_tables.old_entries.Goals as goal

pub returns : goal.returns
returns g c = c.read_all.ensures [] []
