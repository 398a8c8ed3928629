use Rattle.std.proofs.Common.{arith, inl, inr, rules}
use Rattle.vault_tables.proofs.Taking.{passed}
use Rattle.sql_tables.proofs.Streamed.{after}
use Rattle.vault_verdict.proofs.first_rows.read_first.Goals as goal
use Rattle.vault_tables.specs.CountTexts.{count_values}
use Rattle.sql_tables.specs.Reading.{IsUnread}
use Rattle.vault_tables.specs.declared.counts.TheConstants.{READ_COUNTS}

pub returns-in_err-counts-clause-refused : goal.returns-in_err-counts-clause-refused
returns-in_err-counts-clause-refused g c clean has =
    let v = c.args.version in
    passed c.from_residual-in_err-counts.result _ c.from_residual-in_err-counts.ensures.1 (λ store.
    inr (inl (after g.S.Store (IsUnread g.S.Store READ_COUNTS.now count_values) c.args.conn.now
    c.merchants.new.conn c.in_ok-merchants.was (search rules)
    (omega (arith, (c.counts.ensures v).reads.clean, clean)) has
    (λ same. (c.in_err-counts.ensures v).refused clean same store))))
