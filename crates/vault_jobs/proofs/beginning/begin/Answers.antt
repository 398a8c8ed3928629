use Rattle.vault_core.specs.Runs.{run}
use Rattle.vault_engine.specs.Passing.{Passage, passage}
use Rattle.vault_live.specs.Kinds.{merchants_changes, rights_changes}
use Rattle.vault_jobs.specs.Lists.{first_of}
use Rattle.vault_jobs.proofs.TwoParts.{ended_second}
use Rattle.vault_jobs.proofs.beginning.begin.Goals as goal

pub returns-in-Ok-Ok-clause-carried : goal.returns-in-Ok-Ok-clause-carried
returns-in-Ok-Ok-clause-carried g c = λ V b.
    let w : Passage = passage g.T.Tables c.args.vault.now c.settle_first.new.vault in
    let set = first_of merchants_changes c.args.lists.now.merchants V in
    let first = (rw c.in-Ok-Ok.field-0-is at c.in-Ok-Ok.ensures.carried) V
    (c.settle_first.ensures.disk_honest b.0, b.1) in
    ended_second set (first_of rights_changes c.args.lists.now.rights (run set V)) V w
    c.settle_first.result first.0
    (c.settle_first.ensures.carried (run set V) (b.0, first.1.0))
