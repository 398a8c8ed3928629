use Rattle.std.proofs.Common.{◌≡◌}
use Rattle.sqlite.specs.Held.{state}
use Rattle.vault_steps.proofs.Entered.{AreWritten}
use Rattle.vault_steps.specs.Entries.{joined}
use Rattle.vault_steps.proofs.cards.put_pieces.Given as goal

abbrev pub invariant-loop-piece : goal.invariant-loop-piece
invariant-loop-piece g l =
    (l.tx.conn.ghost_name ≡ l.initial.tx.conn.ghost_name)
    × AreWritten (state g.S.Store l.initial.tx.conn.now) (state g.S.Store l.tx.conn.now) (joined l.yielded)
