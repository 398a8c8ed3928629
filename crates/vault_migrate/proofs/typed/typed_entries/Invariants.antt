use Rattle.std.proofs.Common.{length}
use Rattle.vault_migrate.proofs.More.{AreRead}
use Rattle.vault_migrate.proofs.typed.typed_entries.Given as goal

abbrev pub invariant-loop-alloc : goal.invariant-loop-alloc
invariant-loop-alloc l = AreRead l.fn.olders.items l.left.items l.pieces.items

abbrev pub decreases-loop-alloc : goal.decreases-loop-alloc
decreases-loop-alloc l = length l.left.items
