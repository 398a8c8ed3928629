use Rattle.std.proofs.Common.{length}
use Rattle.vault_verdict.proofs.owners.+any_missing.Given as goal

abbrev pub decreases-any_missing : goal.decreases-any_missing
decreases-any_missing l = length l.names.now
