use Rattle.std.proofs.Common.{sym}
use Rattle.sql_tables.proofs.Readings.{takes_scan}
use Rattle.sql_tables.proofs.whole.take_all.Goals as goal

pub returns : goal.returns
returns g c ts is =
    takes_scan g.S.Store g.T.Whole.scan ts is c.args.conn.now c.taken.new.conn c.taken.result
    (rw (c.text.ensures, sym g.met.T.Whole.read_so) at
    (c.taken.ensures _ (rw (sym c.text.ensures) at (g.T.Whole.scan.means ts is).plain)))
