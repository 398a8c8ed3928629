-- Changes that make a command's outcome fit the vault.
use Rattle.std.proofs.Common.{subst, sym}
use Rattle.vault_core.specs.Changes.{Decides, FitsVault}
use Rattle.vault_core.specs.Parts.{command_with}
use Rattle.vault_core.specs.Proper.{IsProper}
use Rattle.vault_core.specs.Sound.{Sound}
use Rattle.vault_core.specs.declared.changes.Changes.{Changes}
use Rattle.vault_core.specs.declared.parts.Parts.{Parts}
use Rattle.vault_core.specs.declared.reply.Reply.{Reply}
use Rattle.vault_core.specs.declared.window.Window.{Window}
use Rattle.vault_core.proofs.StaysSound.{sound-after}

-- what is decided of a proper command fits
pub fits_vault : (w : Window) (parts : Parts) (d : Reply × Changes) → IsProper (command_with parts)
    → Decides w (command_with parts) d → FitsVault w (command_with parts) d.1
fits_vault w parts d proper decides V sound window =
    let done = decides V sound window in
    record {
      counted = done.counted;
      sound = subst Sound (sym done.changes) (sound-after V sound (command_with parts) proper);
    }
