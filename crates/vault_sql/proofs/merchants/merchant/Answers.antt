use Rattle.std.proofs.Common.{Some, ap, arith, sym, ◌∙◌}
use Rattle.sqlite.specs.Held.{state}
use Rattle.sqlite.specs.State.{HasCleanDisk}
use Rattle.sql_tables.proofs.Calls.{reads_then}
use Rattle.vault_sql.proofs.Calls.{answers, fails_then, still_held}
use Rattle.vault_tables.proofs.Told.{reads_as}
use Rattle.vault_sql.proofs.Lookups.{no_row, row_is, total_is}
use Rattle.vault_sql.proofs.merchants.merchant.Goals as goal

pub returns-in_err-counts : goal.returns-in_err-counts
returns-in_err-counts g c =
    fails_then c.in_ok-lives.ensures.reads c.in_err-counts.ensures.reads
    c.from_residual-in_err-counts.ensures.0

pub returns-in_err-made : goal.returns-in_err-made
returns-in_err-made g c =
    fails_then c.in_ok-lives.ensures.reads c.in_ok-counts.ensures.reads c.from_residual-in_err-made.ensures.0

pub returns-in_err-given : goal.returns-in_err-given
returns-in_err-given g c =
    fails_then c.in_ok-lives.ensures.reads c.in_ok-counts.ensures.reads c.from_residual-in_err-given.ensures.0

pub returns-in_err-denied : goal.returns-in_err-denied
returns-in_err-denied g c =
    fails_then c.in_ok-lives.ensures.reads c.in_ok-counts.ensures.reads
    c.from_residual-in_err-denied.ensures.0

pub returns : goal.returns
returns g c = record {
  reads = reads_as
      (reads_then c.in_ok-lives.ensures.reads c.in_ok-lives.ensures.reads.kept c.in_ok-counts.ensures.reads);
  told = λ clean V h.
      let first : HasCleanDisk (state g.S.Store c.lives_at.new.conn) =
      omega (arith, c.in_ok-counts.ensures.reads.clean, clean) in
      let held = (still_held {P = Unit {0}} c.in_ok-lives.ensures.reads V (tt, λ clean. h)).1 first in
      let shown = rw (c.merchant_text.ensures) at (c.in_ok-counts.ensures.told clean V held) in
      ap Some c.row.ensures
      ∙ row_is V c.args.m.now c.in-Some.lives (sym c.in-Some.is ∙ c.in_ok-lives.ensures.told first V h) _ _ _
      (total_is V c.args.m.now _ 1 _ shown (rw (c.deref.ensures.value) at c.in_ok-made.ensures))
      (total_is V c.args.m.now _ 2 _ shown (rw (c.deref-2.ensures.value) at c.in_ok-given.ensures))
      (total_is V c.args.m.now _ 3 _ shown (rw (c.deref-3.ensures.value) at c.in_ok-denied.ensures));
}

pub returns-in_default : goal.returns-in_default
returns-in_default g c =
    answers c.in_ok-lives.ensures (λ V told. no_row V c.args.m.now _ told c.in_default.is)
