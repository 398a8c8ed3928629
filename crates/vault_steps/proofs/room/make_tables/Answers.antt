use Rattle.std.proofs.Common.{arith}
use Rattle.sqlite.specs.Held.{state}
use Rattle.sqlite.specs.State.{HasCleanDisk}
use Rattle.sql_tables.proofs.Calls.{on_ok, steps_then}
use Rattle.vault_steps.proofs.CardStep.{tabled}
use Rattle.vault_steps.proofs.room.make_tables.Goals as goal

pub returns : goal.returns
returns g c = record {
  same_reference = cc;
  steps =
      steps_then c.in_ok-step.ensures.steps
      (steps_then c.in_ok-step-2.ensures.steps c.step-3.ensures.steps);
  done = λ clean.
      let second : HasCleanDisk (state g.S.Store c.step-2.new.tx.conn.now) =
      omega (arith, c.step-3.ensures.steps.clean, clean) in
      let first : HasCleanDisk (state g.S.Store c.step.new.tx.conn.now) =
      omega (arith, c.in_ok-step-2.ensures.steps.clean, second) in
      on_ok c.step-3.result (c.step-3.ensures.ran clean) (λ ran base h w.
      tabled w c.in_ok-step.ensures.steps c.in_ok-step-2.ensures.steps c.step-3.ensures.steps
      (c.in_ok-step.ensures.ran first) (c.in_ok-step-2.ensures.ran second) ran);
}
