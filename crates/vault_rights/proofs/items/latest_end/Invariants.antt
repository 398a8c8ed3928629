use Rattle.std.proofs.Common.{take}
use Rattle.vault_rights.specs.Items.{IsGranted}
use Rattle.vault_rights.proofs.Latest.{IsLatestOf}
use Rattle.vault_rights.proofs.items.latest_end.Given as goal

abbrev pub invariant-loop-grant : goal.invariant-loop-grant
invariant-loop-grant l = IsLatestOf (IsGranted (take l.grant-index l.grants) l.right) l.latest
