use Rattle.std.proofs.Common.{inr}
use Rattle.vault_batch.specs.Stops.{IsBatched}
use Rattle.vault_batch.specs.declared.row_counts.Counts.{Counts}
use Rattle.vault_engine.specs.Passing.{Passage, giving, passage, sending}
use Rattle.vault_listen.specs.Live.{AreGiven, pairs_of}
use Rattle.vault_jobs.proofs.VaultPassages.{along_live}
use Rattle.vault_jobs.specs.Batched.{StopsBatch}
use Rattle.vault_jobs.specs.Doing.{Along}
use Rattle.vault_jobs.specs.Streams.{Streams, streams}
use Rattle.vault_jobs.proofs.task.do_batch.Given.{Over}
use Rattle.vault_jobs.proofs.task.do_batch.Goals.{After-batch_input}
use Rattle.vault_jobs.proofs.task.do_batch.Goals as goal

module _ (g : Over) (c : After-batch_input g) where
  abbrev s : Streams
  s = streams g.R.Read.remaining c.args.input.now c.batch_input.new.input g.W.Write.contents
      c.args.output.now c.batch_input.new.output

  abbrev alone : Passage
  alone = passage g.T.Tables c.args.vault.now c.batch_input.new.vault

  -- the same passage, with the pairs and the bytes that went out
  abbrev whole : Passage
  whole = sending g.W.Write.contents c.args.output.now c.batch_input.new.output
      (giving pairs_of c.in-Some.pairs c.batch_input.new.source
      (passage g.T.Tables c.args.vault.now c.batch_input.new.vault))

  -- what is known of the whole passage is known along its pairs
  along : (P : Passage → Type 0) → P whole
      → Along (AreGiven (g.K.Timekeeper.tells c.args.time.now) c.args.moment c.args.digits) 100000 alone s P
  along P h =
      along_live g.K.Questions.Questions.tells g.K.Questions.Questions.told
      (g.K.Timekeeper.tells c.args.time.now) _ _ 100000 c.args.moment c.args.digits alone s P
      c.in-Some.ensures.fresh.gave c.in-Some.ensures.fresh.left_is c.in-Some.ensures.begins
      c.batch_input.ensures.later h

  answered : (counts : Counts) → IsBatched s.left_old whole c.args.asker counts
      → Along (AreGiven (g.K.Timekeeper.tells c.args.time.now) c.args.moment c.args.digits) 100000 alone s
      (λ q. IsBatched s.left_old q c.args.asker counts)
  answered counts = along (λ q. IsBatched s.left_old q c.args.asker counts)

pub returns-in-Ok-clause-does : goal.returns-in-Ok-clause-does
returns-in-Ok-clause-does g c =
    let it = (goal.at.returns-in-Ok-clause-does g c).After-batch_input in
    let told = c.in-Ok in
    let all = answered g it told.counts told.ensures.batched in
    (told.ensures.unfailed.1, told.counts, search, told.ensures.end, all)

pub returns-in-Ok-2-clause-does : goal.returns-in-Ok-2-clause-does
returns-in-Ok-2-clause-does g c =
    let it = (goal.at.returns-in-Ok-2-clause-does g c).After-batch_input in
    let told = c.in-Ok in
    let all = answered g it told.counts told.ensures.batched in
    (told.ensures.unfailed.1, told.counts, search, told.ensures.end, all)

pub returns-clause-does : goal.returns-clause-does
returns-clause-does g c =
    let it = (goal.at.returns-clause-does g c).After-batch_input in
    inr (along g it (λ q. StopsBatch (s g it).left_old q c.args.asker c.in-Err.fault)
    c.in-Err.ensures.stopped)
