use Rattle.std.proofs.Common.{arith, sym}
use Rattle.sqlite.specs.Held.{state}
use Rattle.sqlite.specs.State.{HasCleanDisk}
use Rattle.sql_tables.proofs.Calls.{reads_then}
use Rattle.vault_tables.proofs.Told.{reads_as}
use Rattle.vault_sql.proofs.Calls.{still_held}
use Rattle.vault_sql.proofs.tokens.dead_from.Goals as goal

pub returns : goal.returns
returns g c = record {
  reads = reads_as
      (reads_then c.in_ok-at.ensures.reads c.in_ok-at.ensures.reads.kept c.in_ok-rows.ensures.reads);
  told = λ clean V h past.
      let first : HasCleanDisk (state g.S.Store c.moment.new.conn) =
      omega (arith, c.in_ok-rows.ensures.reads.clean, clean) in
      let held = (still_held {P = Unit {0}} c.in_ok-at.ensures.reads V (tt, λ clean. h)).1 first in
      let is = c.in_ok-at.ensures.told first V h in
      (is, c.in_ok-rows.ensures.told clean V held (c.start_of.ensures.past V past) c.args.now (sym is));
}
