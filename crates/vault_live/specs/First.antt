-- The first of some commands, carried out one by one.
use Rattle.std.specs.Prelude.{◌≡◌, ◌==◌, ℕ, ◌+◌, ◌<◌, Bool, false, not, true, List, [], ◌∷◌, ◌++◌, length}
use Rattle.std.specs.Prelude.{replicate, take}
use Rattle.vault_changes.specs.Grants.{AreDone}
use Rattle.vault_core.specs.Runs.{replies, run}
use Rattle.vault_core.specs.Vault.{Vault as Content}
use Rattle.vault_core.specs.declared.command.Command.{Command}
use Rattle.vault_core.specs.declared.reply.Reply.TheVariants as answer
use Rattle.vault_engine.specs.Passing.{IsBefore, Keeps, Passage}
use Rattle.vault_live.specs.declared.first_commands.End.{End}
use Rattle.vault_live.specs.declared.first_commands.End.TheVariants.{All, Enough, Refused, Memory, Store}

-- the first so many of the commands are done, and the vault that they leave is kept
abbrev pub AreKept : ℕ → List Command → Passage → Type 0
AreKept k cs w = (V : Content) → IsBefore w V → AreDone k cs V × Keeps w (run (take k cs) V)

-- they are done, and the next one is refused by this number; the vault after it is kept
abbrev pub IsRefusedAfter : ℕ → ℕ → List Command → Passage → Type 0
IsRefusedAfter n k cs w = (V : Content) → IsBefore w V → AreDone k cs V
    × (replies (take (k + 1) cs) V ≡ replicate k answer.Done ++ answer.Refused n ∷ [])
    × Keeps w (run (take (k + 1) cs) V)

-- they are done, and the store failed at the next one: a crash leaves the vault before it or the one after it
abbrev pub IsCutAfter : ℕ → List Command → Passage → Type 0
IsCutAfter k cs w = (V : Content) → IsBefore w V → AreDone k cs V
    × w.left_new (run (take k cs) V) (run (take (k + 1) cs) V)

-- The first so many of the commands are done: all of them; or 100; or those before one that is refused, for
-- which memory was refused, or at which the store failed.
abbrev pub Ends : End → ℕ → List Command → Passage → Type 0
Ends All k cs w = (k ≡ length cs) × AreKept k cs w
Ends Enough k cs w = (k ≡ 100) × AreKept k cs w
Ends (Refused n) k cs w = (k < length cs) × IsRefusedAfter n k cs w
Ends Memory k cs w = (k < length cs) × AreKept k cs w
Ends Store k cs w = (k < length cs) × IsCutAfter k cs w

-- some of the changes are left to be done: they aren't all done, and the first one isn't refused
abbrev pub are_left : End → ℕ → Bool
are_left All k = false
are_left Enough k = true
are_left (Refused n) k = not (k == 0)
are_left Memory k = true
are_left Store k = true
