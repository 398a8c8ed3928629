-- Entries stay, with their numbers or purged.
use Rattle.std.proofs.Common.{◌≡◌, Option, Some, None, List, [], ◌∷◌, ◌∙◌, subst, sym}
use Rattle.vault_core.specs.Keys.{Bytes}
use Rattle.vault_core.specs.Laws.{NumbersNeverShare, IsOrPurged}
use Rattle.vault_core.specs.Proper.{AllProper}
use Rattle.vault_core.specs.Repeats.{is_number_of}
use Rattle.std.specs.Prelude.{true}
use Rattle.vault_core.specs.Runs.{run}
use Rattle.vault_core.specs.Sound.{Sound}
use Rattle.vault_core.specs.Table.{after}
use Rattle.vault_core.specs.Vault.{Vault, entry_at}
use Rattle.vault_core.specs.declared.command.Command.{Command}
use Rattle.vault_core.specs.declared.row.Entry.{Entry}
use Rattle.vault_core.proofs.CurrentLemmas.{same-is}
use Rattle.vault_core.proofs.Repeats.{KeptEntry, same-entry, keeps-after, same-refl}
use Rattle.vault_core.proofs.StaysSound.{sound-after}

-- an entry is kept over commands
pub kept : (V : Vault) (cs : List Command) → Sound V → AllProper cs → (m token : Bytes) (entry : Entry)
    → entry_at V m token ≡ Some entry → KeptEntry token entry (entry_at (run cs V) m token)
kept V [] s p m token entry here = same-entry token entry _ here
kept V (c ∷ cs) s p m token entry here =
    let next = (keeps-after V s c).entries m token entry here in
    let last = kept (after V c) cs (sound-after V s c p.0) p.1 m token next.0 next.1 in
    (last.0, last.1, last.2 ∙ next.2, λ pan is. last.3 pan (next.3 pan is))

own_or_purged : (number token : Bytes) (o : Option Bytes) → is_number_of number token o ≡ true
    → IsOrPurged number o
own_or_purged number token None is = tt
own_or_purged number token (Some other) is = same-is other number is

pub never_share : NumbersNeverShare
never_share V cs s p m token number entry here has =
    let last = kept V cs s p m token entry here in
    let own = subst (λ (o : Option Bytes). is_number_of number token o ≡ true) (sym has) (same-refl number) in
    (last.0, last.1, own_or_purged number token last.0.number (last.3 number own))
