-- What a run does with its file.
use Rattle.std.specs.Prelude.{◌≡◌, ◌⊎◌, ℕ, ℤ, List, Option, Some, None, Result, Ok, Err, Bool, IfOk}
use Rattle.std.specs.Prelude.{true}
use Rattle.clap.specs.Words.{Text}
use Rattle.sqlite.specs.View.{IsClean}
use Rattle.sqlite_disk.specs.declared.Disk.{Ghosts}
use Rattle.sqlite_store.specs.FileStore.{view}
use Rattle.sqlite_store.specs.declared.store.FileStore.{FileStore}
use Rattle.vault_core.specs.Vault.{empty_vault}
use Rattle.vault_file.specs.Found.{ChecksAs, RefusesRightly, Stays, StaysWhole}
use Rattle.vault_file.specs.Paths.{Each}
use Rattle.vault_file.specs.Faults.{IsRefusedBy}
use Rattle.vault_file.specs.Moved.{MovesAs, StaysUnmoved}
use Rattle.vault_verdict.specs.declared.fault.OpenFault.TheVariants.{Memory}
use Rattle.vault_file.specs.declared.fault.NotOpened.{NotOpened as FileFault}
use Rattle.vault_file.specs.declared.fault.NotOpened.TheVariants as file
use Rattle.vault_verdict.specs.Sizes.{sizes_of}
use Rattle.vault_verdict.specs.declared.sizes.Sizes.{Sizes}
use Rattle.vault_words.specs.Why.{HasFewDigits}
use Rattle.vault_words.specs.declared.jobs.Job.{Job}
use Rattle.vault_jobs.specs.Streams.{Seen, output_in, streams}
use Rattle.vault_app.specs.Ending.{Said, Says, status_of}
use Rattle.vault_app.specs.Files.{EndsOnFile}
use Rattle.vault_app.specs.Plans.{EndsBefore, IsPlanOf, IsProperPlan}
use Rattle.vault_app.specs.Asked.{AsksFor, Unasked}
use Rattle.vault_app.specs.Commands.Check.{TellsSizes}
use Rattle.vault_app.specs.Commands.Migrate.{TellsMoved}
use Rattle.vault_app.specs.Commands.Trial.{TrialEnds}
use Rattle.vault_app.specs.World.{World}
use Rattle.vault_app.specs.declared.ending.Ending.{Ending}
use Rattle.vault_app.specs.declared.plan.Plan.{Plan}
use Rattle.vault_app.specs.declared.plan.Plan.TheVariants as plan

module _ {D : Type 0} {g : Ghosts D} where
  -- What a check of the files at a path comes to. The sizes are those of the vault there, which is kept, and
  -- of the empty one where nothing is there. Without files, an open of the path may fail, or memory was
  -- refused while it was looked what is there, or whether there is a log. What a stop leaves of a sound vault
  -- isn't refused for its schema or its rows, and what is refused so is told by what the file holds; and
  -- whatever is in the files stays.
  abbrev pub IsChecked : World → List ℕ → Option (FileStore D g) → Result Sizes FileFault → Type 0
  IsChecked world path (Some left) (Ok sizes) =
      Each (world.holds path) (λ image. ChecksAs image left sizes × StaysWhole image left × Stays image left)
  IsChecked world path (Some left) (Err why) = Each (world.holds path) (λ image.
      (IsClean (view left) → RefusesRightly image why) × StaysWhole image left × Stays image left)
  IsChecked world path None (Ok sizes) = (sizes ≡ sizes_of empty_vault) × world.lacks path
  IsChecked world path None (Err why) =
      IsRefusedBy (world.refuses path) why ⊎ (why ≡ file.Fault Memory)

  -- What a migration of them comes to. One that is refused by another number than 33 leaves whatever is in
  -- the files, and so does one by 33 where there is no older version's table.
  abbrev pub IsMoved : World → List ℕ → Option (FileStore D g) → Result ℤ FileFault → Type 0
  IsMoved world path (Some left) (Ok version) = Each (world.holds path) (λ image. MovesAs image left)
  IsMoved world path (Some left) (Err why) =
      Each (world.holds path) (λ image. StaysUnmoved image left why)
  IsMoved world path None (Ok version) = ⊥
  IsMoved world path None (Err why) = IsRefusedBy (world.refuses path) why

  -- what a plan does with the files at its path, and which files it leaves
  abbrev pub DoesPlan : World → Option (FileStore D g) → Plan → Ending → Seen → Type 0
  DoesPlan world left (plan.Trial t) ending v = (left ≡ None) × TrialEnds world.tells t ending v.streams
  DoesPlan world left (plan.Check path) ending v = v.unread × ((told : Result Sizes FileFault)
      × IsChecked world path.now left told × ((log : Bool) × IfOk told (λ sizes. world.logs path.now log)
      × TellsSizes log told ending (output_in v)))
  DoesPlan world left (plan.Migrate path) ending v = v.unread × ((told : Result ℤ FileFault)
      × IsMoved world path.now left told × ((was_empty : Bool) × (was_empty ≡ true → world.lacks path.now)
      × TellsMoved was_empty told ending (output_in v)))
  DoesPlan world left (plan.Do path task) ending v = EndsOnFile world path.now left task ending v

  -- what a job does with them: its plan, whose parts are values, or nothing where it ends before there is one
  abbrev pub DoesJob : World → Option (FileStore D g) → Job → Ending → Seen → Type 0
  DoesJob world left job ending v =
      ((p : Plan) × IsPlanOf world job p × IsProperPlan p × DoesPlan world left p ending v)
      ⊎ EndsBefore world job ending × (left ≡ None) × v.unread × v.unsent

  -- what words do with them: the job that they ask for, or nothing
  abbrev pub Does : World → Option (FileStore D g) → List Text → Ending → Seen → Type 0
  Does world left words ending v =
      AsksFor words (λ job. DoesJob world left job ending v)
      ⊎ (left ≡ None) × Unasked words ending v.unread v.unsent

  -- What a run of the program does in this world, by its status and the files that it leaves: its words' job
  -- reads and writes what is seen. Then it says how it ended, by its status and a line; and why, where the
  -- words are bad, in lines that show too few digits for a card number.
  pub record DoesRun (world : World) (words : List Text) (result : ℕ × Option (FileStore D g)) (v : Seen)
      (output errors : Said) : Type 0 where
    pub ending : Ending
    pub exits : result.0 ≡ status_of ending
    pub why : List ℕ
    pub few : HasFewDigits why
    pub says : Says why ending output errors
    pub does : Does world result.1 words ending v
