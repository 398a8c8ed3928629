-- What may be noted of a job that is done.
use Rattle.std.specs.Prelude.{◌≡◌, ◌⊎◌, None}
use Rattle.vault_words.specs.declared.jobs.Job.{Job}
use Rattle.vault_words.specs.declared.jobs.Job.TheVariants.{Withdraw, Sweep, Check, Migrate}
use Rattle.vault_jobs.specs.declared.note.Note.{Note as TaskNote}
use Rattle.vault_jobs.specs.declared.note.Note.TheVariants.{NoMerchant, ClockAhead, NothingWithdrawn}
use Rattle.vault_app.specs.declared.note.Note.{Note}
use Rattle.vault_app.specs.declared.note.Note.TheVariants.{Log, Made, Task}

-- Of a check it may be that the file has a log, and of a migration that there was no vault in it; of a sweep
-- that there is no such merchant, or that the clock is far ahead of its moment, where the words fix none; and
-- where a right is withdrawn, that there was none.
abbrev pub MayNote : Note → Job → Type 0
MayNote note (Check j) = note ≡ Log
MayNote note (Migrate j) = note ≡ Made
MayNote note (Sweep j) = (note ≡ Task NoMerchant) ⊎ (note ≡ Task ClockAhead) × (j.now ≡ None)
MayNote note (Withdraw j) = note ≡ Task NothingWithdrawn
MayNote note job = ⊥

-- it is one of a task, of which P holds
abbrev pub OfTask : Note → (TaskNote → Type 0) → Type 0
OfTask (Task note) P = P note
OfTask note P = ⊥
