use Rattle.std.proofs.Common.{◌∙◌, refl, subst, sym}
use Rattle.vault_engine.specs.Passing.{passage}
use Rattle.vault_jobs.proofs.Timed.{sweeps_then, unread_then}
use Rattle.vault_jobs.specs.Doing.{TimedSweepEnds}
use Rattle.vault_jobs.specs.Streams.{output_of}
use Rattle.vault_jobs.proofs.swept.do_sweep.Goals as goal

pub returns-in-Ok-2-clause-swept : goal.returns-in-Ok-2-clause-swept
returns-in-Ok-2-clause-swept g c =
    let swept = c.do_purges.new in
    subst (λ r. TimedSweepEnds c.args.giver c.args.asker c.args.now
    (passage g.T.Tables c.args.vault.now swept.vault) r (output_of g.W.Write.contents c.args.output.now
    swept.output)) (sym c.beside.ensures.ended)
    (sweeps_then g.T.Tables.is_honest g.T.Tables.holds g.T.Tables.leaves c.args.vault.now
    c.moment_of.new.vault c.args.asker c.args.now c.in-Ok.moment c.in-Ok.ensures.told swept.vault
    c.do_purges.ensures.disk_honest c.args.giver (sym c.is_too_early.ensures ∙ c.if-is_too_early.false)
    c.do_purges.result _ _ _ _ c.do_purges.ensures.swept)

pub returns-in-Err-clause-swept : goal.returns-in-Err-clause-swept
returns-in-Err-clause-swept g c =
    unread_then (passage g.T.Tables c.args.vault.now c.moment_of.new.vault) c.args.asker c.args.now
    c.args.giver
    c.in-Err.fault c.in-Err.ensures.failed _ refl _ _ _
