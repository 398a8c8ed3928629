-- What is done with a vault.
use Rattle.std.specs.Prelude.{◌≡◌, ◌⊎◌, ℕ, All, IfSome, List, [], Bool, true, Result, Ok, Err, ◌++◌}
use Rattle.std.specs.Prelude.{codes, decimal}
use Rattle.vault_core.specs.Proper.{HasLivesInRange}
use Rattle.vault_changes.specs.Settings.{HasLives}
use Rattle.vault_engine.specs.declared.stop.Stop.TheVariants as service
use Rattle.vault_batch.specs.declared.fault.BatchFault.TheVariants as row
use Rattle.vault_listen.specs.declared.fault.ListenFault.TheVariants as listener
use Rattle.vault_store.specs.Applied.{is_broken}
use Rattle.vault_store.specs.declared.vault.Fault.TheVariants as vault
use Rattle.vault_store.specs.declared.vault.Vault.{Vault as Held}
use Rattle.vault_jobs.specs.Lists.{follows}
use Rattle.vault_jobs.specs.Streams.{Streams}
use Rattle.vault_jobs.specs.declared.stop.Stop.{Stop}
use Rattle.vault_jobs.specs.declared.stop.Stop.TheVariants.{Vault, Service, Listener, Unread}
use Rattle.vault_jobs.specs.declared.stop.Stop.TheVariants as stop
use Rattle.vault_jobs.specs.declared.task.Outcome.{Outcome}
use Rattle.vault_jobs.specs.declared.task.Task.{Task}
use Rattle.vault_jobs.specs.declared.task.Task.TheVariants.{Change, Give, Settle, SetMerchants, Sweep, Batch}
use Rattle.vault_jobs.specs.declared.task.Task.TheVariants.{Pipe, Serve}

-- the line of a service that listens
abbrev pub listening_line : ℕ → List ℕ
listening_line port = codes "listening " ++ decimal port ++ codes "\n"

-- the line of rights that are given
abbrev pub granted_line : ℕ → List ℕ
granted_line count = codes "granted " ++ decimal count ++ codes "\n"

-- the line of merchants that are set
abbrev pub merchants_line : ℕ → List ℕ
merchants_line count = codes "merchants set " ++ decimal count ++ codes "\n"

-- the line of numbers that are purged
abbrev pub purged_line : ℕ → List ℕ
purged_line count = codes "purged " ++ decimal count ++ codes "\n"

-- the lives of its command, or of its merchants, are lives
abbrev pub IsProper : Task → Type 0
IsProper (Change c) = HasLivesInRange c
IsProper (SetMerchants rows now) = All HasLives rows.items
IsProper (Serve it) = IfSome it.lists.merchants (λ list. All HasLives list.rows.items)
IsProper task = Unit {0}

-- it carries out commands of its own, which may be refused: so does a service that follows a list
abbrev pub IsOfCommands : Task → Type 0
IsOfCommands (Change c) = Unit {0}
IsOfCommands (Give rows now) = Unit {0}
IsOfCommands (Settle rows now) = Unit {0}
IsOfCommands (SetMerchants rows now) = Unit {0}
IsOfCommands (Sweep who now giver) = Unit {0}
IsOfCommands (Serve it) = follows it.lists ≡ true
IsOfCommands task = ⊥

-- the input is unread, but by a batch and messages
abbrev pub IsTaskBegun : Task → Type 0 → Type 0
IsTaskBegun (Batch who now digits) unread = Unit {0}
IsTaskBegun (Pipe now digits) unread = Unit {0}
IsTaskBegun task unread = unread

-- there was no turn, but of a service
abbrev pub HasNoTurns : Task → Streams → Type 0
HasNoTurns (Serve it) s = Unit {0}
HasNoTurns task s = s.turns ≡ []

-- the store failed
abbrev pub FailsStore : Result Outcome Stop → Type 0
FailsStore (Ok end) = ⊥
FailsStore (Err (Vault f)) = f ≡ vault.Store
FailsStore (Err (Service f)) = f ≡ service.Store
FailsStore (Err (Listener f)) = f ≡ listener.Store
FailsStore (Err (Unread about f)) = ⊥
FailsStore (Err (stop.Batch f)) = f ≡ row.Store

-- the vault is broken only where the store failed
abbrev pub BreaksTask : {T : Type 0} → Held T → Result Outcome Stop → Type 0
BreaksTask new result = is_broken new ≡ true → FailsStore result

-- a vault is broken only by a store that fails, and always but by a command whose reply is no verdict
abbrev pub BreaksBy : Task → Result Outcome Stop → Bool → Type 0
BreaksBy task result broken =
    (broken ≡ true → FailsStore result) × (FailsStore result → (broken ≡ true) ⊎ IsOfCommands task)
