use Rattle.std.proofs.Common.{◌∙◌, ap, arith, inl, inr, subst}
use Rattle.sqlite.specs.Effect.{Database}
use Rattle.sqlite.specs.Held.{state}
use Rattle.sqlite.specs.State.{HasCleanDisk}
use Rattle.vault_verdict.proofs.Joined.{failed_both, none_if, same_both, taken_both, told_both}
use Rattle.vault_verdict.proofs.Results.{if_err}
use Rattle.vault_tables.proofs.Taking.{passed}
use Rattle.vault_verdict.proofs.behind.taken.Goals as goal
use Rattle.vault_tables.specs.RecordTexts.{record_values}
use Rattle.sql_tables.specs.Reading.{IsUnread}
use Rattle.vault_tables.specs.declared.records.TheConstants.{READ_RECORDS}

pub returns-in_err-entries-clause-reads : goal.returns-in_err-entries-clause-reads
returns-in_err-entries-clause-reads g c =
    failed_both g.S.Store c.from_residual.result c.in_err-entries.ensures.reads c.from_residual.ensures.0

pub returns-in_err-entries-clause-told : goal.returns-in_err-entries-clause-told
returns-in_err-entries-clause-told g c clean has =
    none_if c.from_residual.result _ c.from_residual.ensures.0

pub returns-in_err-entries-clause-refused : goal.returns-in_err-entries-clause-refused
returns-in_err-entries-clause-refused g c clean has =
    passed c.from_residual.result _ c.from_residual.ensures.1
    (λ store. inr (inr (inl (c.in_err-entries.ensures.refused clean has store))))

pub returns-clause-reads : goal.returns-clause-reads
returns-clause-reads g c =
    told_both g.S.Store c.records.new.conn c.in_ok-entries.ensures.reads
    (c.records.ensures c.args.version).reads

pub returns-clause-told : goal.returns-clause-told
returns-clause-told g c clean has =
    let v = c.args.version in
    let read = c.records.ensures v in
    let early : HasCleanDisk (state g.S.Store c.entries.new.conn) = omega
    (arith, read.reads.clean, clean) in
    let same = same_both g.S.Store c.in_ok-entries.ensures.reads early has in
    let there = ap (λ (d : Database). d.schema) same ∙ has in
    let it = c.in_ok-entries.ensures.told early has in
    taken_both v _ _ c.args.olders.now c.args.start c.in_ok-entries.entries c.new.result c.records.result
    it.0
    it.1 it.2 c.new.ensures.entries c.new.ensures.none same (read.told clean there)

pub returns-clause-refused : goal.returns-clause-refused
returns-clause-refused g c clean has =
    let read = c.records.ensures c.args.version in
    let early : HasCleanDisk (state g.S.Store c.entries.new.conn) = omega
    (arith, read.reads.clean, clean) in
    let same = same_both g.S.Store c.in_ok-entries.ensures.reads early has in
    let there = ap (λ (d : Database). d.schema) same ∙ has in
    if_err c.records.result
    (λ e why store. inr (inr (inr (inl (subst (λ db. IsUnread g.S.Store READ_RECORDS.now record_values db
    c.records.new.conn) same (why store))))))
    (read.refused clean there)
