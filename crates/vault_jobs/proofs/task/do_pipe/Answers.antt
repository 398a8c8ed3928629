use Rattle.std.proofs.Common.{inr}
use Rattle.vault_engine.specs.Passing.{passage}
use Rattle.vault_jobs.proofs.VaultPassages.{along_live}
use Rattle.vault_jobs.specs.Piped.{IsPiped, StopsPiping}
use Rattle.vault_jobs.specs.Streams.{Streams, streams}
use Rattle.vault_jobs.proofs.task.do_pipe.Goals as goal

pub returns-in-Ok-clause-does : goal.returns-in-Ok-clause-does
returns-in-Ok-clause-does g c =
    let s : Streams = streams g.R.Read.remaining c.args.input.now c.pipe.new.input g.W.Write.contents
    c.args.output.now c.pipe.new.output in
    let w = passage g.T.Tables c.args.vault.now c.pipe.new.vault in (
      c.in-Ok.ensures.writer_ok,
      along_live g.K.Questions.Questions.tells g.K.Questions.Questions.told
          (g.K.Timekeeper.tells c.args.time.now) _ _ 1000 c.args.moment c.args.digits w s
          (IsPiped s.left_old s.left_new) c.in-Some.ensures.fresh.gave
          c.in-Some.ensures.fresh.left_is c.in-Some.ensures.begins c.pipe.ensures.later
          c.in-Ok.ensures.served,
    )

pub returns-clause-does : goal.returns-clause-does
returns-clause-does g c =
    let s : Streams = streams g.R.Read.remaining c.args.input.now c.pipe.new.input g.W.Write.contents
    c.args.output.now c.pipe.new.output in
    let w = passage g.T.Tables c.args.vault.now c.pipe.new.vault in
    let e = c.in-Err.fault in
    inr (along_live g.K.Questions.Questions.tells g.K.Questions.Questions.told
    (g.K.Timekeeper.tells c.args.time.now) _ _ 1000 c.args.moment c.args.digits w s
    (λ q. StopsPiping s.left_old s.left_new q e) c.in-Some.ensures.fresh.gave
    c.in-Some.ensures.fresh.left_is c.in-Some.ensures.begins c.pipe.ensures.later
    c.in-Err.ensures.stopped)
