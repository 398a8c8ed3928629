use Rattle.std.proofs.Common.{length}
use Rattle.std.specs.List.{All, AllWithin}
use Rattle.vault_core.specs.Changes.{Fit, plus}
use Rattle.vault_core.specs.Sound.{Sound}
use Rattle.vault_core.specs.Vault.{Vault}
use Rattle.vault_sql.specs.Remembered.{IsRowOf}
use Rattle.vault_sql.proofs.remembered.follow.Given as goal

-- those so far are of the vault with the changes, and the rest of the vault without them
abbrev pub invariant-loop-slot : goal.invariant-loop-slot
invariant-loop-slot l =
    (V : Vault) → All (IsRowOf V) l.fn.slots → Sound V → Fit V l.ch
    → AllWithin (IsRowOf (plus V l.ch)) l.slots 0 l.slot-index
    × AllWithin (IsRowOf V) l.slots l.slot-index (length l.slots)
