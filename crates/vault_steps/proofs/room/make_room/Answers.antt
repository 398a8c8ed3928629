use Rattle.std.proofs.Common.{arith}
use Rattle.sqlite.specs.Held.{state}
use Rattle.sqlite.specs.State.{HasCleanDisk}
use Rattle.sql_tables.proofs.Calls.{on_ok, steps_then}
use Rattle.vault_steps.proofs.CardStep.{going, roomy}
use Rattle.vault_steps.proofs.room.make_room.Goals as goal

pub returns : goal.returns
returns g c = record {
  same_reference = cc;
  steps =
      steps_then c.in_ok-make_tables.ensures.steps (steps_then c.in_ok-drop_entries.ensures.steps
      (steps_then c.in_ok-step.ensures.steps c.step-2.ensures.steps));
  done = λ clean.
      let third : HasCleanDisk (state g.S.Store c.step.new.tx.conn.now) =
      omega (arith, c.step-2.ensures.steps.clean, clean) in
      let second : HasCleanDisk (state g.S.Store c.drop_entries.new.tx.conn.now) =
      omega (arith, c.in_ok-step.ensures.steps.clean, third) in
      let first : HasCleanDisk (state g.S.Store c.make_tables.new.tx.conn.now) =
      omega (arith, c.in_ok-drop_entries.ensures.steps.clean, second) in
      on_ok c.step-2.result (c.step-2.ensures.ran clean) (λ ran base h w.
      roomy h
      (c.in_ok-drop_entries.ensures.done second base h
      (going h base (c.in_ok-make_tables.ensures.done first base h w)))
      c.in_ok-step.ensures.steps c.step-2.ensures.steps (c.in_ok-step.ensures.ran third) ran);
}
