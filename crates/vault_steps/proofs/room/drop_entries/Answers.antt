use Rattle.std.proofs.Common.{◌∙◌, arith}
use Rattle.sqlite.specs.Held.{state}
use Rattle.sqlite.specs.State.{HasCleanDisk}
use Rattle.sql_tables.proofs.Calls.{steps_then}
use Rattle.vault_steps.proofs.CardStep.{dropped}
use Rattle.vault_steps.proofs.room.drop_entries.Goals as goal

pub loop-piece-preserved : goal.loop-piece-preserved
loop-piece-preserved g c =
    let before = c.loop-piece.invariant in
    let step = c.in_ok-step.ensures in (
      step.same_reference ∙ before.0,
      (
        steps_then before.1.0 step.steps,
        λ clean base h w.
            let mid : HasCleanDisk (state g.S.Store c.loop-piece.tx.conn.now) =
            omega (arith, step.steps.clean, clean) in
            dropped h base _ (before.1.1 mid base h w) step.steps (step.ran clean),
      ),
    )
