use Rattle.std.proofs.Common.{◌≡◌}
use Rattle.sqlite.specs.Held.{state}
use Rattle.vault_steps.proofs.CardStep.{AreDropped}
use Rattle.vault_steps.proofs.room.drop_entries.Given as goal

abbrev pub invariant-loop-piece : goal.invariant-loop-piece
invariant-loop-piece g l =
    (l.tx.conn.ghost_name ≡ l.initial.tx.conn.ghost_name)
    × AreDropped (state g.S.Store l.initial.tx.conn.now) (state g.S.Store l.tx.conn.now)
