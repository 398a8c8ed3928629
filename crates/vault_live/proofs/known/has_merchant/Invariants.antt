use Rattle.std.proofs.Common.{◌≡◌, false, take}
use Rattle.vault_live.specs.Known.{has_merchant}
use Rattle.vault_live.proofs.known.has_merchant.Given as goal

abbrev pub invariant-loop-it : goal.invariant-loop-it
invariant-loop-it l = has_merchant (take l.it-index l.held) l.name ≡ false
