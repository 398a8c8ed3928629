use Rattle.std.proofs.Common.{[], inr, subst}
use Rattle.csv.specs.Records.{fields_of}
use Rattle.vault_batch.specs.ReadingRecords.{StandsNext}
use Rattle.vault_batch.proofs.ReaderProgress.{begins_given}
use Rattle.vault_batch.proofs.batch.begin.Goals as goal

pub returns-then-not-is_header-clause-began : goal.returns-then-not-is_header-clause-began
returns-then-not-is_header-clause-began g c = λ known s.
    let stands = subst (StandsNext known g.R.Read.remaining [] (fields_of c.read_record.new.fields)
    c.read_record.new.records) c.in-Ok-true.field-0-test (c.in-Ok-true.ensures.next known [] s) in
    inr (
      fields_of c.read_record.new.fields,
      begins_given known g.R.Read.remaining _ _ stands.gave,
      λ same. let is = c.is_header.ensures.1 same in let isnt = c.if-not-is_header.true in absurd (cc),
    )
