use Rattle.std.proofs.Common.{inr, refl}
use Rattle.vault_engine.specs.Passing.{Passage, giving, passage, sending}
use Rattle.vault_jobs.proofs.Flushing.{batch_flushed}
use Rattle.vault_jobs.proofs.batch.batch_input.Goals as goal

pub returns-in-Ok-flush-clause-batched : goal.returns-in-Ok-flush-clause-batched
returns-in-Ok-flush-clause-batched g c =
    let left = g.R.Read.remaining c.args.input.now.inner in
    let gone = g.W.Write.contents c.flush.new.self.inner in
    let w : Passage = sending g.W.Write.contents c.args.output.now c.batch.new.writer
    (giving g.S.Source.given c.args.source.now c.batch.new.source
    (passage g.T.Tables c.args.vault.now c.batch.new.vault)) in
    batch_flushed left gone w c.args.asker c.in-Ok.counts c.in-Ok.ensures.batched c.flush.ensures.bytes

pub returns-in-Err-flush-clause-stopped : goal.returns-in-Err-flush-clause-stopped
returns-in-Err-flush-clause-stopped g c =
    let left = g.R.Read.remaining c.args.input.now.inner in
    let gone = g.W.Write.contents c.flush.new.self.inner in
    let w : Passage = sending g.W.Write.contents c.args.output.now c.batch.new.writer
    (giving g.S.Source.given c.args.source.now c.batch.new.source
    (passage g.T.Tables c.args.vault.now c.batch.new.vault)) in
    let all = batch_flushed left gone w c.args.asker c.in-Ok.counts c.in-Ok.ensures.batched
    c.flush.ensures.bytes in
    inr (refl, (c.in-Ok.counts, all))
