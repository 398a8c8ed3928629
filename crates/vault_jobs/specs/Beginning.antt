-- The commands with which a service begins.
use Rattle.std.specs.Prelude.{◌≡◌, ◌⊎◌, ℕ, ◌+◌, ◌<◌, ◌≤◌, List, [], ◌∷◌, ◌++◌, length, take, replicate}
use Rattle.std.specs.Prelude.{true, Result, Ok, Err}
use Rattle.vault_core.specs.Runs.{replies, run}
use Rattle.vault_core.specs.Vault.{Vault as Content}
use Rattle.vault_core.specs.declared.command.Command.{Command}
use Rattle.vault_core.specs.declared.reply.Reply.TheVariants as answer
use Rattle.vault_engine.specs.Passing.{IsBefore, Keeps, Passage}
use Rattle.vault_store.specs.declared.vault.Fault.{Fault}
use Rattle.vault_store.specs.declared.vault.Fault.TheVariants.{Memory, Store, Reopen}
use Rattle.vault_changes.specs.Carried.{Verdict}
use Rattle.vault_changes.specs.Grants.{AreDone}

-- The commands of a vault are carried out in order up to the first that isn't done. Done: all of them.
-- Refused: all before one, which is refused by this number; nothing after it. 20: the first of them, and no
-- more. 21: the first of them, the vault is broken, and a crash leaves the vault after those, or after one
-- more.
abbrev pub CarriesTo : List Command → Content → Passage → Result Verdict Fault → Type 0
CarriesTo cs V w (Ok (Ok done)) = AreDone (length cs) cs V × Keeps w (run cs V)
CarriesTo cs V w (Ok (Err n)) = (k : ℕ) × (k < length cs)
    × (replies (take (k + 1) cs) V ≡ replicate k answer.Done ++ answer.Refused n ∷ [])
    × Keeps w (run (take (k + 1) cs) V)
CarriesTo cs V w (Err Memory) = (k : ℕ) × (k ≤ length cs) × AreDone k cs V
    × Keeps w (run (take k cs) V)
CarriesTo cs V w (Err Store) = (k : ℕ) × (k ≤ length cs) × (w.broken ≡ true) × AreDone k cs V
    × (w.left_new (run (take k cs) V) (run (take k cs) V)
    ⊎ (k < length cs) × w.left_new (run (take k cs) V) (run (take (k + 1) cs) V))
CarriesTo cs V w (Err Reopen) = ⊥

-- so the commands that the vault asks for which was held
abbrev pub CarriesOut : (Content → List Command) → Passage → Result Verdict Fault → Type 0
CarriesOut wants w result = (V : Content) → IsBefore w V → CarriesTo (wants V) V w result
