-- A run that works on a file found a sound vault in it, or no table.
use Rattle.std.proofs.Common.{◌≡◌, ◌⊎◌, ℕ, List, Some, inl, inr, refl, arith, subst, true}
use Rattle.clap.specs.Words.{Text}
use Rattle.sql_tables.specs.Schema.{no_schema}
use Rattle.sqlite.specs.Files.{file_state}
use Rattle.sqlite.specs.State.{HasCleanDisk, State}
use Rattle.sqlite.specs.View.{IsClean}
use Rattle.sqlite_disk.specs.declared.Disk.{Ghosts}
use Rattle.sqlite_store.specs.FileStore as files
use Rattle.sqlite_store.specs.declared.store.FileStore.{FileStore}
use Rattle.sqlite_wal.specs.Recovery.{Image}
use Rattle.vault_file.proofs.Opening.{found_in}
use Rattle.vault_file.specs.Found.{OpensFrom}
use Rattle.vault_schema.proofs.Newest.{held_in_newest}
use Rattle.vault_schema.specs.Schema.{newest_schema}
use Rattle.vault_verdict.specs.Opened.{HoldsSound, Opens, StandsSound}
use Rattle.vault_verdict.specs.Reading.{IsFull}
use Rattle.vault_engine.specs.Passing.{Passage}
use Rattle.vault_jobs.specs.Streams.{Known, Streams, seen_as, streams, with_turns}
use Rattle.vault_jobs.specs.declared.task.Task.{Task}
use Rattle.vault_app.specs.Files.{DoesOnFile, WorksOn}
use Rattle.vault_app.specs.Jobs.{Does as DoesWords, DoesPlan}
use Rattle.vault_app.specs.World.{World, anything, outside_in}
use Rattle.vault_app.specs.declared.ending.Ending.{Ending}
use Rattle.vault_app.specs.declared.ending.Ending.TheVariants as ending
use Rattle.vault_app.specs.declared.note.Note.TheVariants as note
use Rattle.vault_app.specs.declared.plan.Plan.{Plan}
use Rattle.vault_app.specs.declared.plan.Plan.TheVariants as plan
use Rattle.vault_words.specs.Commands.{program_app}
use Rattle.vault_words.specs.Jobs.{IsAsked}
use Rattle.vault_words.specs.declared.jobs.Job.{Job}
use Rattle.vault_promise.proofs.OneKind.{only_task}
use Rattle.vault_app.specs.Plans.{saying}
use Rattle.vault_promise.proofs.Unplanned.{Fits, IsAt, check_beside, fits, found_at, move_beside}
use Rattle.vault_promise.specs.OpenedSound.{FilesOpenSound, HoldSound, IsNotOpened}
use Rattle.vault_promise.specs.Runs.{AsksTask, IsFound, Moments, Texts, world_with}

-- what holds a sound vault stands for one
stands : (s : State) → HoldsSound s → StandsSound s.now
stands s it = record {
  schema = it.holds.schema;
  vault = it.vault;
  sound = it.sound;
  stand = (held_in_newest it.vault s it.holds).is.stand;
}

-- and so does what is opened as one
stands_opened : (old new : State) → Opens old new → old.now.schema ≡ newest_schema → IsFull old.now
    → StandsSound old.now
stands_opened old new opens schema full =
    let held = opens.ours (record { schema = schema; full = full }) in
    subst StandsSound held.1 (stands new held.0)

whose : (old new : State) → Opens old new → (old.now.schema ≡ no_schema) ⊎ (old.now.schema ≡ newest_schema)
    → (old.now.schema ≡ no_schema) ⊎ (old.now.schema ≡ newest_schema) × (IsFull old.now → StandsSound old.now)
whose old new opens (inl none) = inl none
whose old new opens (inr schema) = inr (schema, stands_opened old new opens schema)

module _ {D : Type 0} {g : Ghosts D} (world : World) (image : Image) (left : FileStore D g)
    (clean : IsClean (files.view left)) where
  -- a file on which a task worked
  worked : (Done : Passage → Type 0) (path : List ℕ) → world.holds path image
      → WorksOn (world.holds path) left Done → HoldSound image
  worked Done path at on =
      let opens : OpensFrom image on.opened = on.found image at in
      let now : HasCleanDisk (file_state on.opened) = on.clean clean in
      let was : HasCleanDisk (file_state opens.first) = omega (arith, opens.clean, now) in
      let it = opens.opens now in (
        (file_state opens.first).now,
        found_in opens.found was,
        whose (file_state opens.first) (file_state on.opened) it it.whose,
      )

  by_ending : (end : Ending) → ¬ (IsNotOpened end) → (path : List ℕ) → world.holds path image → (t : Task)
      (unread unsent : Type 0) (s : Streams)
      → DoesOnFile (outside_in world) (world.holds path) left t end (seen_as unread unsent s) → HoldSound
      image
  by_ending ending.Done opened path at t unread unsent s h = worked _ path at h
  by_ending (ending.Noted note.Log) opened path at t unread unsent s h = absurd h
  by_ending (ending.Noted note.Made) opened path at t unread unsent s h = absurd h
  by_ending (ending.Noted (note.Task it)) opened path at t unread unsent s h = worked _ path at h
  by_ending ending.Version opened path at t unread unsent s h = absurd h
  by_ending (ending.Refused n) opened path at t unread unsent s h = worked _ path at h
  by_ending (ending.Misnamed it) opened path at t unread unsent s h = absurd h
  by_ending (ending.Unfinished it) opened path at t unread unsent s h = absurd h
  by_ending ending.SomeRefused opened path at t unread unsent s h = worked _ path at h
  by_ending ending.BadWords opened path at t unread unsent s h = absurd h
  by_ending (ending.NotOpened why) opened path at t unread unsent s h = absurd (opened (why, refl))
  by_ending (ending.Stopped stop) opened path at t unread unsent s h = worked _ path at h

  all_moments : Moments
  all_moments turn now = true

  all_texts : Texts
  all_texts = record { said = λ path text. true; looked = λ path look text. true }

  by_plan : (words : List Text) → AsksTask words → (job : Job) → IsAsked program_app words job → (p : Plan)
      → Fits (world_with all_moments all_texts) job p → (end : Ending) → ¬ (IsNotOpened end) → (unread unsent : Type 0) (s : Streams)
      → DoesPlan world (Some left) p end (seen_as unread unsent s) → IsAt world image p → HoldSound image
  by_plan words asks job asked (plan.Trial t) fit end opened unread unsent s h at =
      let none = h.0 in absurd (cc)
  by_plan words asks job asked (plan.Check path) fit end opened unread unsent s h at =
      absurd (only_task anything words asks.0 job asks.2.0 asks.1 asked asks.2.1
      (check_beside (saying job).purpose fit))
  by_plan words asks job asked (plan.Migrate path) fit end opened unread unsent s h at =
      absurd (only_task anything words asks.0 job asks.2.0 asks.1 asked asks.2.1
      (move_beside (saying job).purpose fit))
  by_plan words asks job asked (plan.Do path t) fit end opened unread unsent s h at =
      by_ending end opened path.now at t unread unsent s h

  of_words : (words : List Text) → AsksTask words → (end : Ending) → ¬ (IsNotOpened end)
      → (unread unsent : Type 0) (s : Streams) → DoesWords world (Some left) words end
      (seen_as unread unsent s)
      → IsFound words (λ path. world.holds path image) → HoldSound image
  unfolding all_moments all_texts
  of_words words asks end opened unread unsent s (inl (job, asked, inl (p, is, proper, h))) at =
      by_plan words asks job asked p (fits world all_moments all_texts (record {
        tells = λ turn now told. refl;
        says = λ path text told. refl;
        looks = λ path look text told. refl;
      }) job p is) end opened
      unread unsent s h (found_at world image job p is (λ path named. at job path asked named))
  of_words words asks end opened unread unsent s (inl (job, asked, inr (why, none, calm, silent))) at =
      absurd (cc)
  of_words words asks end opened unread unsent s (inr (none, without)) at = absurd (cc)

pub files_open_sound : {D R W E K X P : Type 0} (g : Ghosts D) (remaining : R → Known)
    (contents : W → Known) (said : E → Known) (world_of : K → X → P → World)
    → FilesOpenSound g remaining contents said world_of
files_open_sound g remaining contents said world_of time desk paths image left words status turns
    i i' o told o' e e' it at asks opened clean =
    of_words (world_of time desk paths) image left clean words asks it.ending opened (i' ≡ i) (told ≡ o)
    (with_turns (streams remaining i i' contents o told) turns) it.does at
