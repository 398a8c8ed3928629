use Rattle.std.proofs.Common.{arith}
use Rattle.vault_changes.proofs.RightKeys.{listed_further}
use Rattle.vault_changes.proofs.right_keys.listed_keys.Goals as goal

pub loop-row-preserved : goal.loop-row-preserved
loop-row-preserved c =
    listed_further c.loop-row.keys c.insert.new.self c.args.rows.now c.loop-row.row-index c.row-item.result
    c.row-item.is (omega (arith, c.loop-row-test.true, c.loop-row.auto.row-index-end))
    c.in_ok-insert.ensures.updates.0 c.loop-row.invariant
