use Rattle.std.proofs.Common.{arith, subst}
use Rattle.vault_changes.proofs.Keyed.{Puts}
use Rattle.vault_changes.proofs.MerchantKeys.{merchants_further}
use Rattle.vault_changes.specs.MerchantKeys.{setting_cmp}
use Rattle.vault_changes.proofs.merchant_keys.merchant_keys.Goals as goal

pub loop-it-preserved : goal.loop-it-preserved
loop-it-preserved c =
    merchants_further c.loop-it.keys c.insert.new.self c.args.held.now c.loop-it.it-index c.it-item.result
    c.it-item.is (omega (arith, c.loop-it-test.true, c.loop-it.auto.it-index-end))
    (subst (Puts setting_cmp c.loop-it.keys c.insert.new.self) c.held_key.ensures
    c.in_ok-insert.ensures.updates.0) c.loop-it.invariant
