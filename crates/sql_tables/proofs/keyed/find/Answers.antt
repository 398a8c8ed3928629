use Rattle.std.proofs.Common.{sym, ap, ◌∙◌, slice_get}
use Rattle.sqlite.specs.Held.{state}
use Rattle.sql_tables.proofs.Stated.{finds, found_none, found_some}
use Rattle.sql_tables.proofs.keyed.find.Goals as goal

pub returns-clause-told : goal.returns-clause-told
returns-clause-told g c clean h stands k given =
    found_none g.T.Stored.at (g.T.Stored.held h k) c.in_ok-rows.rows.items
    (finds g.T.Stored.at g.T.Stored.claims g.T.Stored.held g.T.Stored.said (state g.S.Store c.args.conn.now)
    (state g.S.Store c.rows_of.new.conn) h stands _ _
    (rw (sym c.find_text.ensures) at g.met.T.Finds.finding_is)
    c.in_ok-rows.rows.items (c.in_ok-rows.ensures.told clean) k given)
    (c.in-None.ensures.value ∙ ap (λ l. slice_get l 0) c.deref.ensures.value)

pub returns-in-Some-clause-told : goal.returns-in-Some-clause-told
returns-in-Some-clause-told g c clean h stands k given =
    found_some g.T.Stored.at (g.T.Stored.held h k) c.in_ok-rows.rows.items c.in-Some.row.now
    g.T.Finds.shows g.met.T.Finds.told
    (finds g.T.Stored.at g.T.Stored.claims g.T.Stored.held g.T.Stored.said (state g.S.Store c.args.conn.now)
    (state g.S.Store c.rows_of.new.conn) h stands _ _
    (rw (sym c.find_text.ensures) at g.met.T.Finds.finding_is)
    c.in_ok-rows.rows.items (c.in_ok-rows.ensures.told clean) k given)
    (c.in-Some.ensures.value ∙ ap (λ l. slice_get l 0) c.deref.ensures.value)
    _ c.in_ok-value_of-in-Some.ensures
