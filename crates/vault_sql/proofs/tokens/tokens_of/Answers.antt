use Rattle.std.proofs.Common.{ap, arith, map, sym, ◌∙◌}
use Rattle.std.proofs.lemmas.List.{take_all}
use Rattle.sqlite.specs.Order.{column}
use Rattle.vault_sql.proofs.tokens.tokens_of.Goals as goal

pub returns : goal.returns
returns c =
    ap (map (λ row. column row 0))
    (sym (take_all c.loop-row.row-index c.args.rows.now
    (omega (arith, c.loop-row.auto.row-index-end, c.loop-row-test.false)))) ∙ c.loop-row.invariant
