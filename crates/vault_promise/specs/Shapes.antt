-- What a task does, by its shape.
use Rattle.std.specs.Prelude.{ℕ, List, [], ◌∷◌, ◌++◌, Option, codes, decimal, length, true}
use Rattle.vault_core.specs.Vault.{Vault as Content}
use Rattle.vault_core.specs.declared.command.Command.{Command}
use Rattle.vault_batch.specs.declared.asker.Asker.{Asker}
use Rattle.vault_rights.specs.Named.{Row}
use Rattle.vault_store.specs.Listed.{merchant_rows}
use Rattle.vault_changes.specs.Changes.{changes_at, missing_rows, rights_of, surplus_rights}
use Rattle.vault_changes.specs.Grants.{grants_at}
use Rattle.vault_changes.specs.Settings.{settings_at}
use Rattle.vault_jobs.specs.ListingLines.{shown_text}
use Rattle.vault_jobs.specs.Tasks.{granted_line, merchants_line}
use Rattle.vault_jobs.specs.declared.clock.Giver.{Giver}
use Rattle.vault_jobs.specs.declared.serve_task.ServeTask.{ServeTask}
use Rattle.vault_jobs.specs.declared.task.Task.{Task}
use Rattle.vault_jobs.specs.declared.task.Task.TheVariants.{Change, Give, Settle, SetMerchants, Sweep, Batch}
use Rattle.vault_jobs.specs.declared.task.Task.TheVariants.{Pipe, Serve, Show}

-- What a task does from a vault. It carries out commands, one after the other, and has a line that says that
-- all are done; it purges a merchant's dead tokens at a moment, and has such a line; it answers rows, messages
-- or connections; or it says a text.
pub data Shape : Type 0 where
  Commands : List Command → List ℕ → Shape
  Purges : Asker → ℕ → Giver → Shape
  Rows : Asker → Option ℕ → Option (List ℕ) → Shape
  Messages : Option ℕ → Option (List ℕ) → Shape
  Connections : ServeTask → Shape
  Words : List ℕ → Shape

-- the line that says how many rights were given and withdrawn to make those of the vault exactly the rows'
abbrev pub rights_line : List Row → Content → List ℕ
rights_line rows V = codes "granted " ++ decimal (length (missing_rows rows (rights_of V)))
    ++ codes " withdrawn " ++ decimal (length (surplus_rights rows (rights_of V))) ++ codes "\n"

-- the shape of a task, by the vault that it opens
abbrev pub shape_of : Task → Content → Shape
shape_of (Change c) V = Commands (c ∷ []) (codes "done\n")
shape_of (Give rights now) V = Commands (grants_at now rights.items) (granted_line (length rights.items))
shape_of (Settle rights now) V =
    Commands (changes_at true now rights.items (rights_of V)) (rights_line rights.items V)
shape_of (SetMerchants rows now) V = let cs = settings_at now rows.items (merchant_rows V) in
    Commands cs (merchants_line (length cs))
shape_of (Sweep who now giver) V = Purges who now giver
shape_of (Batch who now digits) V = Rows who now digits
shape_of (Pipe now digits) V = Messages now digits
shape_of (Serve service) V = Connections service
shape_of (Show it) V = Words (shown_text it V)
