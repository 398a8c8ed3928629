use Rattle.std.proofs.Common.{◌∙◌, [], inl, subst, sym}
use Rattle.vault_verdict.specs.Judging.{AllComeTo}
use Rattle.vault_verdict.proofs.Results.{failed_memory}
use Rattle.vault_verdict.proofs.verdict.judge_first.Goals as goal
use Rattle.vault_rules.specs.HeldRows.{HoldCards}

pub returns-in_err-index-clause-told : goal.returns-in_err-index-clause-told
returns-in_err-index-clause-told g c clean has =
    inl (failed_memory _ c.from_residual.result c.from_residual.ensures.1)

pub returns-clause-told : goal.returns-clause-told
returns-clause-told g c clean has =
    let index = c.in_ok-index.index in
    let merchants = c.in_ok-index.ensures.merchants ∙ c.deref.ensures.value in
    let counts = c.in_ok-index.ensures.counts ∙ c.deref-2.ensures.value in
    subst (λ x. AllComeTo g.S.Store c.args.version x c.judge_cards.result c.args.conn.now
    c.judge_cards.new.conn)
    (λ i. record { versions = c.args.versions.now; merchants = merchants i; counts = counts i })
    (c.judge_cards.ensures.told
    (subst (λ m. HoldCards m index.cards []) (sym c.in_ok-index.ensures.merchants)
    c.in_ok-index.ensures.cards) clean has)
