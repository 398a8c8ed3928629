-- What is noted beside a task that is done.
use Rattle.std.specs.Prelude.{◌≡◌, ◌⊎◌, ℕ, Bool, List, Option, Some, None, IfSome, IsSome, Result, Ok}
use Rattle.std.specs.Prelude.{false, is_some, if◌then◌else◌}
use Rattle.std.specs.FinMap as map
use Rattle.std.specs.List.{list_any}
use Rattle.std.specs.Option.{option_map_or}
use Rattle.std.specs.Ordering.{eq_by_cmp}
use Rattle.vault_core.specs.Keys.{right_cmp}
use Rattle.vault_core.specs.Vault.{Vault as Content}
use Rattle.vault_core.specs.declared.command.Command.{Command}
use Rattle.vault_core.specs.declared.command.Command.TheVariants.{Withdraw}
use Rattle.vault_engine.specs.Passing.{IsBefore, Passage}
use Rattle.vault_changes.specs.Changes.{Held, Key}
use Rattle.vault_changes.specs.Moments.{is_far_ahead, is_far_behind, moment_in}
use Rattle.vault_jobs.specs.declared.clock.Giver.{Giver}
use Rattle.vault_jobs.specs.declared.clock.Giver.TheVariants.{Words, Clock}
use Rattle.vault_jobs.specs.declared.note.Note.{Note}
use Rattle.vault_jobs.specs.declared.note.Note.TheVariants.{NoMerchant, ClockAhead, NothingWithdrawn}
use Rattle.vault_jobs.specs.declared.stop.Stop.{Stop}
use Rattle.vault_jobs.specs.declared.task.Outcome.{Outcome}
use Rattle.vault_jobs.specs.declared.task.Outcome.TheVariants.{Done}
use Rattle.vault_jobs.specs.declared.task.Task.{Task}
use Rattle.vault_jobs.specs.declared.task.Task.TheVariants.{Change, Sweep}

-- ---- a right that is taken away

-- the right that a command takes away, where it takes one
abbrev pub withdrawn_by : Command → Option Key
withdrawn_by (Withdraw caller m right now) = Some (caller, (m, right))
withdrawn_by c = None

-- a vault holds the right
abbrev pub has_right : Content → Key → Bool
has_right V right = is_some (map.get V.rights right)

-- the right is among these
abbrev pub is_among : List Held → Key → Bool
is_among held right = list_any (λ it. eq_by_cmp right_cmp right it.0) held

-- what is noted where it is taken away: that it isn't held
abbrev pub right_note : Bool → Option Note
right_note has = if has then None else Some NothingWithdrawn

-- what is noted of a command: that it takes a right away which the vault doesn't hold
abbrev pub change_note : Content → Command → Option Note
change_note V c = option_map_or (λ right. right_note (has_right V right)) (withdrawn_by c) None

-- ---- a sweep

-- a sweep is refused: the clock gives its moment, and the merchant's is far ahead of that
abbrev pub is_too_early : Giver → ℕ → Option ℕ → Bool
is_too_early Words now moment = false
is_too_early Clock now moment = option_map_or (is_far_ahead now) moment false

-- What is noted of one, by the merchant's moment: that there is none, since the vault doesn't know the
-- merchant; or that the clock, which gives the sweep's, is more than 31 days ahead of it.
abbrev pub moment_note : Giver → ℕ → Option ℕ → Option Note
moment_note giver now None = Some NoMerchant
moment_note Words now (Some moment) = None
moment_note Clock now (Some moment) = if is_far_behind now moment then Some ClockAhead else None

-- ---- any task

-- what is noted of a task, by the vault that it finds
abbrev pub note_of : Task → Content → Option Note
note_of (Change c) V = change_note V c
note_of (Sweep who now giver) V = moment_note giver now (moment_in V who.merchant)
note_of task V = None

-- the notes that a task may have
abbrev pub MayNote : Task → Note → Type 0
MayNote (Change c) note = IsSome (withdrawn_by c) × (note ≡ NothingWithdrawn)
MayNote (Sweep who now giver) note = (note ≡ NoMerchant) ⊎ (giver ≡ Clock) × (note ≡ ClockAhead)
MayNote task note = ⊥

-- a note where a task ends so: only where it is done
abbrev pub beside : Result Outcome Stop → Option Note → Option Note
beside (Ok Done) it = it
beside result it = None

-- What is noted of a task that ends so. It is a note that the task may have, and stands beside one that is
-- done alone; and then it is, on an honest disk, the one of the vault that was held, or none where that has
-- none.
pub record IsNoted (task : Task) (w : Passage) (result : Result Outcome Stop) (note : Option Note)
    : Type 0 where
  pub fits : IfSome note (λ it. MayNote task it × (result ≡ Ok Done))
  pub exact : result ≡ Ok Done → (V : Content) → IsBefore w V → note ≡ note_of task V
