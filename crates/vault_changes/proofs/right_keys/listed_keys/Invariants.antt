use Rattle.std.proofs.Common.{take}
use Rattle.vault_changes.specs.RightKeys.{HasListed}
use Rattle.vault_changes.proofs.right_keys.listed_keys.Given as goal

abbrev pub invariant-loop-row : goal.invariant-loop-row
invariant-loop-row l = HasListed l.keys (take l.row-index l.rows)
