use Rattle.std.proofs.Common.{◌-◌}
use Rattle.sqlite.specs.Held.{state}
use Rattle.vault_schema.specs.Layers.{rank}
use Rattle.vault_schema.specs.Stands.{newest}
use Rattle.vault_steps.proofs.Climbing.{HasClimbed}
use Rattle.vault_steps.proofs.climb.climb.Given as goal

abbrev pub invariant-steps : goal.invariant-steps
invariant-steps g l =
    HasClimbed l.initial.version l.version (state g.S.Store l.initial.conn) (state g.S.Store l.conn)
    l.conn.in_transaction

abbrev pub decreases-steps : goal.decreases-steps
decreases-steps g l = rank newest - rank l.version
