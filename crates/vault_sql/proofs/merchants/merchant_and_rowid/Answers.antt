use Rattle.std.proofs.Common.{arith}
use Rattle.sqlite.specs.Held.{state}
use Rattle.sqlite.specs.State.{HasCleanDisk}
use Rattle.sql_tables.proofs.Calls.{reads_then}
use Rattle.vault_tables.proofs.Told.{reads_as}
use Rattle.vault_sql.proofs.merchants.merchant_and_rowid.Goals as goal

pub returns : goal.returns
returns g c = record {
  reads = reads_as
      (reads_then c.in_ok-found.ensures.reads c.in_ok-found.ensures.reads.kept c.in_ok-rowid.ensures.reads);
  told = λ clean V h.
      let first : HasCleanDisk (state g.S.Store c.merchant.new.conn) =
      omega (arith, c.in_ok-rowid.ensures.reads.clean, clean) in
      c.in_ok-found.ensures.told first V h;
}
