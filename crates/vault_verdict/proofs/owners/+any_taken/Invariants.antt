use Rattle.std.proofs.Common.{length}
use Rattle.vault_verdict.proofs.owners.+any_taken.Given as goal

abbrev pub decreases-any_taken : goal.decreases-any_taken
decreases-any_taken l = length l.names.now
