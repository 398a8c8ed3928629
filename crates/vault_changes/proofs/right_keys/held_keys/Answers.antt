use Rattle.std.proofs.Common.{arith}
use Rattle.vault_changes.proofs.RightKeys.{held_further}
use Rattle.vault_changes.proofs.right_keys.held_keys.Goals as goal

pub loop-it-preserved : goal.loop-it-preserved
loop-it-preserved c =
    held_further c.loop-it.keys c.insert.new.self c.args.held.now c.loop-it.it-index c.it-item.result
    c.it-item.is (omega (arith, c.loop-it-test.true, c.loop-it.auto.it-index-end))
    c.in_ok-insert.ensures.updates.0 c.loop-it.invariant
