use Rattle.std.proofs.Common.{◌≡◌, false, take}
use Rattle.vault_live.specs.Known.{lacks_merchant}
use Rattle.vault_live.proofs.known.lacks_merchant.Given as goal

abbrev pub invariant-loop-row : goal.invariant-loop-row
invariant-loop-row l = lacks_merchant l.held (take l.row-index l.rows) ≡ false
