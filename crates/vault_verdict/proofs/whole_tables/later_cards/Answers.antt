use Rattle.std.proofs.Common.{inl}
use Rattle.vault_verdict.proofs.Joined.{failed_as, none_if}
use Rattle.vault_tables.proofs.Taking.{passed}
use Rattle.vault_verdict.proofs.whole_tables.later_cards.Goals as goal

pub returns-in_err-index-clause-reads : goal.returns-in_err-index-clause-reads
returns-in_err-index-clause-reads g c others indexes =
    failed_as (c.in_err-index.ensures others indexes).reads c.from_residual.ensures.0

pub returns-in_err-index-clause-told : goal.returns-in_err-index-clause-told
returns-in_err-index-clause-told g c others indexes clean has =
    none_if c.from_residual.result _ c.from_residual.ensures.0

pub returns-in_err-index-clause-refused : goal.returns-in_err-index-clause-refused
returns-in_err-index-clause-refused g c others indexes clean has =
    passed c.from_residual.result _ c.from_residual.ensures.1
    (λ store. inl ((c.in_err-index.ensures others indexes).refused clean has store))

pub returns-clause-reads : goal.returns-clause-reads
returns-clause-reads g c others indexes = assumption (c.in_ok-index.ensures others indexes).reads

pub returns-clause-told : goal.returns-clause-told
returns-clause-told g c others indexes clean has = (c.in_ok-index.ensures others indexes).told clean has
