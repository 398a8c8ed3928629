use Rattle.std.proofs.Common.{arith, sym}
use Rattle.sqlite.specs.Held.{state}
use Rattle.vault_schema.specs.Left.{left_alone}
use Rattle.vault_sql.proofs.Places.{still_held}
use Rattle.vault_sql.proofs.tables.SqlTablesTables.merchant.Goals as goal

pub returns-in-Some-clause-told : goal.returns-in-Some-clause-told
returns-in-Some-clause-told g c clean V held sound = sym (c.in-Some.ensures V (held.1 clean).1.1)

pub returns-in-Some-clause-crash : goal.returns-in-Some-clause-crash
returns-in-Some-clause-crash g c clean V held =
    let holds = (held.1 clean).0 in
    left_alone (state g.S.Store c.args.self.now.conn) V holds
    (λ db. g.met.S.Store.settled c.args.self.now.conn.store db holds.is_open)

pub returns-in-Ok-clause-kept : goal.returns-in-Ok-clause-kept
returns-in-Ok-clause-kept g c V held = (
  held.0,
  λ clean.
      let was = held.1 (omega (arith, c.in-Ok.ensures.reads.clean, clean)) in
      let row = c.in-Ok.ensures.told clean V was.0 in (
        ((still_held c.in-Ok.ensures.reads V held).1 clean).0,
        (
          was.1.0,
          c.keep_merchant.ensures V was.1.1
              row,
        ),
      ),
)
