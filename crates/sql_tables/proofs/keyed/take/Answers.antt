use Rattle.std.proofs.Common.{sym}
use Rattle.sqlite.specs.Held.{state}
use Rattle.sql_tables.proofs.Calls.{on_ok}
use Rattle.sql_tables.proofs.Stated.{takes}
use Rattle.sql_tables.proofs.keyed.take.Goals as goal

pub returns-clause-done : goal.returns-clause-done
returns-clause-done g c k given clean =
    on_ok c.step.result (c.step.ensures.ran clean) (λ did base h w.
    let ran = did w.inside in
    takes g.T.Stored.at g.T.Stored.claims g.T.Stored.held g.T.Stored.said g.T.Stored.plain
    g.T.Stored.with g.T.Stored.set base
    (state g.S.Store c.args.tx.now.conn.now) (state g.S.Store c.step.new.tx.conn.now) _ _ h
    (record { within = w; count = ran.0; ran = ran.1; limit = c.step.ensures.steps.limit })
    (rw (sym c.take_text.ensures) at g.met.T.Takes.taking_is) k given)
