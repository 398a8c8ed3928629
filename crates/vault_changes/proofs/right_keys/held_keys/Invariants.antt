use Rattle.std.proofs.Common.{take}
use Rattle.vault_changes.specs.RightKeys.{HasHeld}
use Rattle.vault_changes.proofs.right_keys.held_keys.Given as goal

abbrev pub invariant-loop-it : goal.invariant-loop-it
invariant-loop-it l = HasHeld l.keys (take l.it-index l.held)
