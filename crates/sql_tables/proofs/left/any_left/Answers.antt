use Rattle.std.proofs.Common.{[], sym}
use Rattle.sql_tables.proofs.Readings.{tells_any, tells_none}
use Rattle.sql_tables.proofs.left.any_left.Goals as goal

pub returns-in_err-ids-clause-told : goal.returns-in_err-ids-clause-told
returns-in_err-ids-clause-told g c ts is =
    let means = rw (sym c.ids_text.ensures) at (g.T.Left.left.means ts is) in
    rw c.ids_text.ensures at (tells_none g.S.Store c.args.conn.now c.shown.new.conn
    {tree = g.T.Left.left.tree} _ (c.in_err-ids.ensures _ means.plain) c.from_residual.result
    c.from_residual.ensures.1)

pub returns-clause-told : goal.returns-clause-told
returns-clause-told g c ts is =
    let means = rw (sym c.ids_text.ensures) at (g.T.Left.left.means ts is) in
    rw c.ids_text.ensures at (tells_any g.S.Store c.args.conn.now c.shown.new.conn [] means c.in_ok-ids.ids
    (c.in_ok-ids.ensures _ means.plain) c.any_of.result (rw (c.deref.ensures.value) at c.any_of.ensures))
