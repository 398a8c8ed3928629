-- The numbers of a merchant's dead tokens, purged at one moment.
use Rattle.std.specs.Prelude.{◌≡◌, ℕ, ◌≤◌, List, [], ◌∷◌, ◌++◌, length, true, Result, Ok, Err}
use Rattle.vault_core.specs.Dead.{dead_tokens}
use Rattle.vault_core.specs.Keys.{Bytes}
use Rattle.vault_core.specs.Runs.{run}
use Rattle.vault_core.specs.Table.{reply}
use Rattle.vault_core.specs.Vault.{Vault as Content}
use Rattle.vault_core.specs.declared.command.Command.{Command}
use Rattle.vault_core.specs.declared.command.Command.TheVariants.{Purge}
use Rattle.vault_core.specs.declared.reply.Reply.TheVariants as answer
use Rattle.vault_batch.specs.declared.asker.Asker.{Asker}
use Rattle.vault_engine.specs.Passing.{IsBefore, Keeps, Passage}
use Rattle.vault_store.specs.declared.vault.Fault.{Fault}
use Rattle.vault_store.specs.declared.vault.Fault.TheVariants.{Memory, Store, Reopen}
use Rattle.vault_changes.specs.Grants.{AreDone}
use Rattle.vault_changes.specs.Purges.{purges_of}

-- the command that purges a token's number
abbrev pub purge_at : Asker → ℕ → Bytes → Command
purge_at who now token = Purge who.caller who.merchant token now

-- the commands that purge the numbers of tokens at one moment, in their order
abbrev pub purges_at : Asker → ℕ → List Bytes → List Command
purges_at who now tokens = purges_of who.caller who.merchant now tokens

-- the vault after these commands
abbrev pub swept_vault : Asker → ℕ → List Bytes → Content → Content
swept_vault who now tokens V = run (purges_at who now tokens) V

-- the merchant's tokens that are dead after them
abbrev pub left_dead : Asker → ℕ → List Bytes → Content → List Bytes
left_dead who now tokens V = dead_tokens (swept_vault who now tokens V) who.merchant now

-- the purges of these tokens are done; they are the first of the dead ones, and the others are still dead
abbrev pub AreSwept : Asker → ℕ → List Bytes → Content → Type 0
AreSwept who now tokens V =
    AreDone (length tokens) (purges_at who now tokens) V
    × (dead_tokens V who.merchant now ≡ tokens ++ left_dead who now tokens V)

-- the one list begins the other
abbrev pub Begin : List Bytes → List Bytes → Type 0
Begin first whole = (rest : List Bytes) × (whole ≡ first ++ rest)

-- A sweep ends. Purged: the purges of all dead tokens are done, in their order and at one moment, and none is
-- left; so many they are. Refused: those of the first are done, and that of the next one is refused by this
-- number; nothing after it. 20: those of the first are done, and nothing else is. 21: those of the first are
-- done, the vault is broken, and a crash leaves the vault before the next one's or the one after it.
abbrev pub Sweeps : Asker → ℕ → Passage → Result (Result ℕ ℕ) Fault → Type 0
Sweeps who now w (Ok (Ok count)) = (tokens : List Bytes) × ((V : Content) → IsBefore w V
    → AreSwept who now tokens V × (left_dead who now tokens V ≡ []) × (count ≡ length tokens)
    × Keeps w (swept_vault who now tokens V))
Sweeps who now w (Ok (Err n)) = (tokens : List Bytes) × (next : Bytes)
    × ((V : Content) → IsBefore w V → AreSwept who now tokens V
    × Begin (next ∷ []) (left_dead who now tokens V)
    × (reply (swept_vault who now tokens V) (purge_at who now next) ≡ answer.Refused n)
    × Keeps w (swept_vault who now tokens V))
Sweeps who now w (Err Memory) = (tokens : List Bytes) × ((V : Content) → IsBefore w V
    → AreSwept who now tokens V × Keeps w (swept_vault who now tokens V))
Sweeps who now w (Err Store) = (tokens next : List Bytes) × (length next ≤ 1)
    × ((V : Content) → IsBefore w V → (w.broken ≡ true) × AreSwept who now tokens V
    × Begin next (left_dead who now tokens V)
    × w.left_new (swept_vault who now tokens V) (swept_vault who now (tokens ++ next) V))
Sweeps who now w (Err Reopen) = ⊥
