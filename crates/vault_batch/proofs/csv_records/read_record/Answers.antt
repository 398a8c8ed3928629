use Rattle.std.proofs.Common.{inl}
use Rattle.csv.specs.Records.{fields_of}
use Rattle.vault_batch.proofs.ReaderProgress.{stands_next}
use Rattle.vault_batch.proofs.csv_records.read_record.Goals as goal

pub returns-in-Ok-clause-next : goal.returns-in-Ok-clause-next
returns-in-Ok-clause-next g c = λ known before s.
    stands_next known g.R.Read.remaining c.args.records.now c.read_byte_record.new.self
    (fields_of c.read_byte_record.new.row) before c.in-Ok.found s (inl (c.in-Ok.ensures.ready s.whole))
    (c.in-Ok.ensures.reads s.whole s.ready)
