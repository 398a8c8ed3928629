use Rattle.std.proofs.Common.{◌≡◌, drop}
use Rattle.vault_jobs.specs.Notes.{is_among}
use Rattle.vault_jobs.proofs.changed.is_among.Given as goal

abbrev pub invariant-loop-it : goal.invariant-loop-it
invariant-loop-it l = is_among (drop l.it-index l.held) l.right ≡ is_among l.held l.right
