use Rattle.vault_engine.specs.Passing.{passage}
use Rattle.vault_live.proofs.Attending.{attend_unsaid}
use Rattle.vault_live.specs.Sweeping.{AsksFirst}
use Rattle.vault_live.proofs.sweeps.sweep.Goals as goal

pub returns-in-Ok-default-true-clause-attends : goal.returns-in-Ok-default-true-clause-attends
returns-in-Ok-default-true-clause-attends g c =
    attend_unsaid (AsksFirst c.args.sweeper.1 c.args.now) (passage g.T.Tables c.args.vault.now
    c.sweep_first.new.vault)
    c.in-Ok-default-true.news c.spoken.result c.spoken.ensures c.in-Ok-default-true.ensures.attends

pub returns-in-Ok-default-false-clause-attends : goal.returns-in-Ok-default-false-clause-attends
returns-in-Ok-default-false-clause-attends g c =
    attend_unsaid (AsksFirst c.args.sweeper.1 c.args.now) (passage g.T.Tables c.args.vault.now
    c.sweep_first.new.vault)
    c.in-Ok-default-false.news c.spoken-in-Ok-default-false.result c.spoken-in-Ok-default-false.ensures
    c.in-Ok-default-false.ensures.attends
