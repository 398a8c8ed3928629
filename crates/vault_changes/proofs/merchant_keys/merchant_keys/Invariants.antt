use Rattle.std.proofs.Common.{take}
use Rattle.vault_changes.specs.MerchantKeys.{HasMerchants}
use Rattle.vault_changes.proofs.merchant_keys.merchant_keys.Given as goal

abbrev pub invariant-loop-it : goal.invariant-loop-it
invariant-loop-it l = HasMerchants l.keys (take l.it-index l.held)
