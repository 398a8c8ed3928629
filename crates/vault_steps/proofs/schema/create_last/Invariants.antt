use Rattle.std.proofs.Common.{◌≡◌}
use Rattle.sqlite.specs.Held.{state}
use Rattle.vault_steps.proofs.Making.{AreMade}
use Rattle.vault_steps.proofs.schema.create_last.Given as goal

abbrev pub invariant-loop-text : goal.invariant-loop-text
invariant-loop-text g l =
    (l.tx.conn.ghost_name ≡ l.initial.tx.conn.ghost_name)
    × AreMade (state g.S.Store l.initial.tx.conn.now) (state g.S.Store l.tx.conn.now) l.text-index
