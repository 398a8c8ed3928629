-- Commands one after the other.
use Rattle.std.specs.Prelude.{◌≡◌, ◌⊎◌, List, [], ◌∷◌}
use Rattle.vault_core.specs.Table.{reply, after}
use Rattle.vault_core.specs.Vault.{Vault}
use Rattle.vault_core.specs.declared.command.Command.{Command}
use Rattle.vault_core.specs.declared.reply.Reply.{Reply}

-- the replies, each of the vault that the commands before left
abbrev pub replies : List Command → Vault → List Reply
replies [] V = []
replies (c ∷ cs) V = reply V c ∷ replies cs (after V c)

-- the last vault
abbrev pub run : List Command → Vault → Vault
run [] V = V
run (c ∷ cs) V = run cs (after V c)

-- a command isn't accepted where it leaves the vault as it is
abbrev pub IsUnaccepted : Vault → Command → Type 0
IsUnaccepted V c = after V c ≡ V

-- the second list is the first, but that some commands are left out which aren't accepted where they stand
abbrev pub LeavesOut : List Command → List Command → Vault → Type 0
LeavesOut [] fewer V = fewer ≡ []
LeavesOut (c ∷ cs) fewer V =
    (IsUnaccepted V c × LeavesOut cs fewer (after V c))
    ⊎ ((rest : List Command) × (fewer ≡ c ∷ rest) × LeavesOut cs rest (after V c))
