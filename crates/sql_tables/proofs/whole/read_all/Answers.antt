use Rattle.std.proofs.Common.{sym}
use Rattle.sql_tables.proofs.Readings.{reads_scan}
use Rattle.sql_tables.proofs.whole.read_all.Goals as goal

pub returns : goal.returns
returns g c ts is =
    reads_scan g.S.Store g.T.Whole.scan ts is c.args.conn.now c.shown.new.conn c.shown.result
    (rw (c.text.ensures, sym g.met.T.Whole.read_so) at
    (c.shown.ensures _ (rw (sym c.text.ensures) at (g.T.Whole.scan.means ts is).plain)))
