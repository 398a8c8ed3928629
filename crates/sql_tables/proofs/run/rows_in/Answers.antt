use Rattle.sqlite.specs.Held.{state}
use Rattle.sql_tables.proofs.Calls.{unchanged}
use Rattle.sql_tables.proofs.run.rows_in.Goals as goal

pub returns-clause-kept : goal.returns-clause-kept
returns-clause-kept g c clean s plain has =
    unchanged (λ rows. rows.items) s c.args.sql.now _ (state g.S.Store c.args.tx.now.conn.now)
    (state g.S.Store c.query_all.new.self.conn.now) c.query_all.result plain has
    (c.query_all.ensures.ok clean)
