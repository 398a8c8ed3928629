-- What is done with the vault in a file.
use Rattle.std.specs.Prelude.{◌≡◌, ◌⊎◌, ℕ, List, [], Option, Some, None, Result, Ok, Err, Bool}
use Rattle.sqlite.specs.Files.{file_state}
use Rattle.sqlite.specs.Held.{Held}
use Rattle.sqlite.specs.State.{HasCleanDisk}
use Rattle.sqlite.specs.View.{IsClean}
use Rattle.sqlite_disk.specs.declared.Disk.{Ghosts}
use Rattle.sqlite_store.specs.FileStore.{view}
use Rattle.sqlite_store.specs.declared.store.FileStore.{FileStore}
use Rattle.sqlite_wal.specs.Recovery.{Image}
use Rattle.vault_core.specs.Sound.{Sound}
use Rattle.vault_recover.specs.Crashed.{Reopens, ReopensEither}
use Rattle.vault_schema.specs.Holds.{Holds}
use Rattle.vault_file.specs.Found.{MayFindNone, OpensFrom, RefusesRightly, Stays, StaysWhole}
use Rattle.vault_file.specs.Paths.{Each}
use Rattle.vault_file.specs.Faults.{IsRefusedBy}
use Rattle.vault_recover.specs.declared.unopened.Unopened.TheVariants.{Missing}
use Rattle.vault_file.specs.declared.fault.NotOpened.{NotOpened as FileFault}
use Rattle.vault_file.specs.declared.fault.NotOpened.TheVariants as file
use Rattle.vault_verdict.specs.declared.fault.OpenFault.TheVariants.{Memory}
use Rattle.vault_engine.specs.Passing.{Passage}
use Rattle.vault_jobs.specs.Doing.{Does}
use Rattle.vault_jobs.specs.Outside.{Outside}
use Rattle.vault_jobs.specs.Streams.{Seen}
use Rattle.vault_jobs.specs.declared.note.Note.{Note as TaskNote}
use Rattle.vault_jobs.specs.declared.stop.Stop.{Stop}
use Rattle.vault_jobs.specs.declared.task.Outcome.{Outcome}
use Rattle.vault_jobs.specs.declared.task.Outcome.TheVariants as outcome
use Rattle.vault_jobs.specs.declared.show.Shown.{Shown}
use Rattle.vault_jobs.specs.declared.task.Task.{Task}
use Rattle.vault_jobs.specs.declared.task.Task.TheVariants.{Show}
use Rattle.vault_app.specs.Endings.{EndsSo, no_ending}
use Rattle.vault_app.specs.Notes.{OfTask}
use Rattle.vault_app.specs.World.{World, outside_in}
use Rattle.vault_app.specs.declared.ending.Ending.{Ending}
use Rattle.vault_app.specs.declared.ending.Ending.TheVariants.{Done, Noted, Refused, SomeRefused, NotOpened}
use Rattle.vault_app.specs.declared.ending.Ending.TheVariants.{Stopped}
use Rattle.vault_app.specs.declared.note.Note.TheVariants as note

-- how a job ends whose task came to this, with what is noted of it
abbrev pub ending_for : Result Outcome Stop → Option TaskNote → Ending
ending_for (Ok outcome.Done) None = Done
ending_for (Ok outcome.Done) (Some it) = Noted (note.Task it)
ending_for (Ok (outcome.Refused n)) it = Refused n
ending_for (Ok outcome.SomeRefused) it = SomeRefused
ending_for (Err stop) it = Stopped stop

-- the task only says what a vault holds
abbrev pub IsShow : Task → Type 0
IsShow t = (it : Shown) × (t ≡ Show it)

-- Why the files at a path aren't opened if none are left: an open of the path may fail so; or the task only
-- says what is there, and nothing is, or memory was refused while that was looked at.
abbrev pub LeavesAlone : World → List ℕ → Task → FileFault → Type 0
LeavesAlone world path task why =
    IsRefusedBy (world.refuses path) why
    ⊎ ((why ≡ file.Refused Missing) × IsShow task × world.lacks path
    ⊎ (why ≡ file.Fault Memory) × IsShow task)

module _ {D : Type 0} {g : Ghosts D} where
  -- The passage of the vault in files that were opened by this connection, and are left, closed. All of it
  -- has the premise that the disk is clean in the end. A vault that is kept is one that whoever opens the
  -- files finds, whatever a crash may have left of them.
  abbrev pub file_passing : Held (FileStore D g) → FileStore D g → Bool → Passage
  file_passing opened left broken = record {
    given_old = [];
    given_new = [];
    sent_old = None;
    sent_new = None;
    honest = IsClean (view left);
    held_old = λ V. Holds (file_state opened) V × Sound V;
    held_new = λ V. Reopens left V × Sound V;
    left_new = ReopensEither left;
    broken = broken;
  }

  -- The vault in files with such bytes was opened, this was done with it, and these files are left. A vault
  -- that the bytes keep was held, and of two that they may keep one.
  pub record WorksOn (Holding : Image → Type 0) (left : FileStore D g) (Done : Passage → Type 0) : Type 0
    where
      pub opened : Held (FileStore D g)
      pub broken : Bool
      pub found : Each Holding (λ image. OpensFrom image opened)
      pub clean : IsClean (view left) → HasCleanDisk (file_state opened)
      pub done : Done (file_passing opened left broken)

  -- Files with such bytes weren't opened, and these are left. The refusal is right; what they kept they keep;
  -- and where there was a table, whatever is in them stays.
  pub record RefusesFile (Holding : Image → Type 0) (left : FileStore D g) (why : FileFault) : Type 0 where
    pub tells : Each Holding (λ image. IsClean (view left) → RefusesRightly image why)
    pub stays : Each Holding (λ image. Stays image left)
    pub same : Each Holding (λ image. ¬ MayFindNone image → StaysWhole image left)

  -- what was done with the vault in files with such bytes, by how a task on it ended, and what is noted of it
  abbrev pub DoesOnFile : Outside → (Image → Type 0) → FileStore D g → Task → Ending → Seen → Type 0
  DoesOnFile at Holding left task ending v =
      let works : Result Outcome Stop → Option TaskNote → Type 0 =
      λ result it. WorksOn Holding left (λ w. Does at task w result it v) in
      EndsSo (record no_ending {
        done = works (Ok outcome.Done) None;
        noted = λ it. OfTask it (λ of. works (Ok outcome.Done) (Some of));
        refused = λ n. works (Ok (outcome.Refused n)) None;
        some_refused = works (Ok outcome.SomeRefused) None;
        not_opened = λ why. RefusesFile Holding left why × v.unread × v.unsent;
        stopped = λ stop. works (Err stop) None;
      }) ending

  -- The same at a path, where files are left only if they were opened, or refused with a connection.
  abbrev pub EndsOnFile : World → List ℕ → Option (FileStore D g) → Task → Ending → Seen → Type 0
  EndsOnFile world path (Some left) task ending v =
      DoesOnFile (outside_in world) (world.holds path) left task ending v
  EndsOnFile world path None task ending v = (why : FileFault) × (ending ≡ NotOpened why)
      × LeavesAlone world path task why × v.unread × v.unsent
