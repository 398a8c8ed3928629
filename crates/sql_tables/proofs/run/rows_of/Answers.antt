use Rattle.sqlite.specs.Held.{state}
use Rattle.sql_tables.proofs.Calls.{reads, was_sound}
use Rattle.sql_tables.proofs.run.rows_of.Goals as goal

pub returns-clause-reads : goal.returns-clause-reads
returns-clause-reads g c s plain =
    reads (λ rows. rows.items) s c.args.sql.now _ (state g.S.Store c.args.conn.now)
    (state g.S.Store c.query_all.new.self) c.query_all.result plain c.query_all.ensures.mode
    c.query_all.ensures.survives (λ clean has. c.query_all.ensures.ok clean)

pub returns-clause-sound : goal.returns-clause-sound
returns-clause-sound g c clean s plain has =
    was_sound (λ rows. rows.items) s c.args.sql.now _ (state g.S.Store c.args.conn.now)
    (state g.S.Store c.query_all.new.self) c.query_all.result plain has c.schema-live.ensures.live
    (c.query_all.ensures.ok clean)
