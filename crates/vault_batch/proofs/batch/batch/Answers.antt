use Rattle.vault_engine.specs.Passing.{giving, passage, sending}
use Rattle.vault_batch.proofs.BatchStops.{memory_for_read, stops_after_all}
use Rattle.vault_batch.proofs.batch.batch.Goals as goal

pub returns-else-failed-clause-stopped : goal.returns-else-failed-clause-stopped
returns-else-failed-clause-stopped g c =
    let w = sending g.W.Write.contents c.args.writer.now c.answer_rows.new.writer
    (giving g.S.Source.given c.args.source.now c.answer_rows.new.source
    (passage g.T.Tables c.args.vault.now c.answer_rows.new.vault)) in
    memory_for_read (g.R.Read.remaining c.args.reader.now.inner) w
    (record { caller = c.args.caller; merchant = c.args.merchant }) c.in-Err-Read.field-0
    c.in-Err-Read.field-0-is c.in-Err-Read.ensures.stopped

pub returns-in-Err-at_end-clause-stopped : goal.returns-in-Err-at_end-clause-stopped
returns-in-Err-at_end-clause-stopped g c =
    let w = sending g.W.Write.contents c.args.writer.now c.answer_rows.new.writer
    (giving g.S.Source.given c.args.source.now c.answer_rows.new.source
    (passage g.T.Tables c.args.vault.now c.answer_rows.new.vault)) in
    stops_after_all (g.R.Read.remaining c.args.reader.now.inner) w
    (record { caller = c.args.caller; merchant = c.args.merchant }) c.in-Ok.counts c.in-Err-at_end.fault _
    c.in-Ok.ensures.batched c.in-Err-at_end.ensures.only
