use Rattle.std.proofs.Common.{◌∙◌, sym}
use Rattle.vault_sql.proofs.RowsAfter.{row-follows, row-stays, row-still}
use Rattle.vault_sql.proofs.remembered.row_after.Goals as goal

pub returns-in_default : goal.returns-in_default
returns-in_default c V known sound fit =
    row-still V c.args.ch.now fit c.in_default.is c.args.known.now.name ∙ known

pub returns-then-eq : goal.returns-then-eq
returns-then-eq c V known sound fit =
    row-follows V c.args.ch.now fit c.in-Some.m c.in-Some.lives c.in-Some.is sound c.args.known.now.name
    c.args.known.now.row c.changed_row.result (sym c.eq.ensures ∙ c.if-eq.true) known c.changed_row.ensures

pub returns-else-eq : goal.returns-else-eq
returns-else-eq c V known sound fit =
    row-stays V c.args.ch.now fit c.in-Some.m c.in-Some.lives c.in-Some.is c.args.known.now.name
    c.args.known.now.row (sym c.eq.ensures ∙ c.if-eq.false) known
