use Rattle.std.proofs.Common.{arith, inl, inr, rules}
use Rattle.vault_tables.proofs.Taking.{passed}
use Rattle.sql_tables.proofs.Streamed.{after}
use Rattle.vault_verdict.proofs.behind.read_behind.Goals as goal
use Rattle.vault_tables.specs.RightTexts.{right_values}
use Rattle.sql_tables.specs.Reading.{IsUnread}
use Rattle.vault_verdict.specs.ReadAs.{IsUnreadReplaced, rights_text}

pub returns-in_err-rights-clause-refused : goal.returns-in_err-rights-clause-refused
returns-in_err-rights-clause-refused g c clean has =
    let v = c.args.version in
    passed c.from_residual-in_err-rights.result _ c.from_residual-in_err-rights.ensures.1 (λ store.
    inr (inr (inr (inr (inl (after g.S.Store (IsUnread g.S.Store (rights_text v) right_values) c.args.conn.now
    c.taken.new.conn c.in_ok-records.was (search rules)
    (omega (arith, c.rights.ensures.reads.clean, clean)) has
    (λ same. c.in_err-rights.ensures.refused clean same store)))))))

pub returns-in_err-replaced-clause-refused : goal.returns-in_err-replaced-clause-refused
returns-in_err-replaced-clause-refused g c clean has =
    passed c.from_residual-in_err-replaced.result _ c.from_residual-in_err-replaced.ensures.1 (λ store.
    inr (inr (inr (inr (inr (after g.S.Store (IsUnreadReplaced g.S.Store) c.args.conn.now c.rights.new.conn
    c.in_ok-rights.was (search rules) (omega (arith, c.replaced.ensures.reads.clean, clean)) has
    (λ same. c.in_err-replaced.ensures.refused clean same store)))))))

pub returns-in_err-records-clause-refused : goal.returns-in_err-records-clause-refused
returns-in_err-records-clause-refused g c clean has =
    passed c.from_residual.result _ c.from_residual.ensures.1 (c.in_err-records.ensures.refused clean has)
