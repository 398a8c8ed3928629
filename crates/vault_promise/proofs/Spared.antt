-- Runs that aren't refused for the schema or the rows of their file.
use Rattle.std.proofs.Common.{◌≡◌, ℕ, List, Option, None, Result, Ok, Err, Bool, inl, inr, sym, true, false}
use Rattle.std.proofs.Common.{arith, subst}
use Rattle.std.specs.Prelude.{ℤ, IfSome}
use Rattle.sqlite_disk.specs.declared.Disk.{Ghosts}
use Rattle.sqlite_wal.specs.Recovery.{Image}
use Rattle.vault_core.specs.Sound.{Sound}
use Rattle.vault_core.specs.Vault.{Vault as Content}
use Rattle.vault_core.specs.declared.command.Command.{Command}
use Rattle.vault_file.specs.Faults.{IsRefusedBy}
use Rattle.vault_file.specs.Found.{IsNoVerdict, SparesStopped}
use Rattle.vault_core.specs.Proper.{IsProper}
use Rattle.vault_jobs.specs.Streams.{Known, Output, Streams, output_with}
use Rattle.vault_jobs.specs.declared.task.Task.{Task}
use Rattle.clap.specs.Words.{Text, IsAmong}
use Rattle.vault_words.specs.declared.jobs.Job.{Job}
use Rattle.vault_app.specs.Jobs.{IsChecked, IsMoved}
use Rattle.vault_app.specs.Plans.{EndsBefore}
use Rattle.vault_app.specs.Saying.{IsTaskFor, OfCheck, OfMove, OfTask, OfTrial, Purpose}
use Rattle.vault_app.specs.Asked.{Unasked, sound_line}
use Rattle.vault_app.specs.World.{World}
use Rattle.vault_app.specs.Ending.{IsDone}
use Rattle.vault_app.specs.Endings.{NotedLineEnds}
use Rattle.vault_app.specs.Files.{LeavesAlone}
use Rattle.vault_app.specs.Commands.Check.{TellsSizes}
use Rattle.vault_app.specs.Commands.Migrate.{TellsMoved}
use Rattle.vault_app.specs.Commands.Trial.{TrialEnds}
use Rattle.vault_jobs.specs.declared.trial.Trial.{Trial}
use Rattle.clap.specs.declared.error.kind.ErrorKind.TheVariants.{DisplayHelp}
use Rattle.vault_file.specs.declared.fault.NotOpened.{NotOpened as FileFault}
use Rattle.vault_file.specs.declared.fault.NotOpened.TheVariants as file
use Rattle.vault_recover.specs.declared.unopened.Unopened.{Unopened}
use Rattle.vault_recover.specs.declared.unopened.Unopened.TheVariants.{Missing}
use Rattle.vault_verdict.specs.declared.fault.OpenFault.TheVariants.{Memory}
use Rattle.vault_verdict.specs.declared.sizes.Sizes.{Sizes}
use Rattle.vault_app.specs.declared.ending.Ending.{Ending}
use Rattle.vault_app.specs.declared.ending.Ending.TheVariants as ending
use Rattle.vault_app.specs.declared.note.Note.{Note}
use Rattle.vault_app.specs.declared.note.Note.TheVariants as note
use Rattle.vault_promise.proofs.RunHistories.{perhaps_sound}
use Rattle.vault_promise.specs.Runs.{AreNew, AsksMove, IsMoving, IsSpared, Run, perhaps}

-- a task is no move
pub no_task : (world : World) (it : Purpose) (t : Task) → IsTaskFor it world t → IsMoving it → ⊥
no_task world (OfTrial Is) t is moves = is
no_task world (OfCheck path) t is moves = is
no_task world (OfMove path) t is moves = is
no_task world (OfTask path Is) t is moves = moves

-- what a refusal isn't, no refusal of the run is
pub spared_by : (r : Run) (why : FileFault) → r.ending ≡ ending.NotOpened why → IsNoVerdict why → IsSpared r
spared_by r why is none other same = subst IsNoVerdict (cc (is, same)) none

-- what the run leaves in the newest schema, or where nothing is there yet, isn't refused so
pub new_spared : (image : Image) (why : FileFault) → SparesStopped image why → (V : Content)
    (c : Option Command) → Sound V → IfSome c IsProper → AreNew image V c → IsNoVerdict why
new_spared image why spares V c sound proper (inl keeps) =
    spares.either V (perhaps V c) sound (perhaps_sound V c sound proper) keeps
new_spared image why spares V c sound proper (inr (none, empty, (before, blank, first))) =
    spares.first before blank first

-- the file itself is refused, and not for what it holds
pub itself : (Is : Unopened → Type 0) (why : FileFault) → IsRefusedBy Is why → IsNoVerdict why
itself Is (file.Refused cause) refused = (
  λ same. let is : 34 ≡ 30 = same in absurd (omega (arith, is)),
  λ same. let is : 34 ≡ 31 = same in absurd (omega (arith, is)),
)
itself Is (file.Fault fault) refused = absurd refused

-- or memory was refused
no_memory : IsNoVerdict (file.Fault Memory)
no_memory = (
  λ same. let is : 32 ≡ 30 = same in absurd (omega (arith, is)),
  λ same. let is : 32 ≡ 31 = same in absurd (omega (arith, is)),
)

-- a line is written, with a note or none, or the writer failed
pub line_free : (text : List ℕ) (noted : Bool) (of : Note) (e : Ending) (out : Output)
    → NotedLineEnds text noted of e out → (why : FileFault) → e ≡ ending.NotOpened why → ⊥
line_free text true of e out (ending.Done, ends, is) why same = absurd (cc (is, same))
line_free text false of e out (ending.Done, ends, is) why same = absurd (cc (is, same))
line_free text true of e out (ending.Stopped s, ends, is) why same = absurd (cc (is, same))
line_free text false of e out (ending.Stopped s, ends, is) why same = absurd (cc (is, same))
line_free text noted of e out (line, ends, is) why same = ends

-- and with no files left
pub none_checked : {D : Type 0} (g : Ghosts D) (world : World) (told : Result Sizes FileFault)
    (path : List ℕ) → IsChecked {g = g} world path None told → (it : Run) (log : Bool) (unsent : Type 0)
    (old new : Known) (writer : Bool)
    → TellsSizes log told it.ending (output_with unsent old new writer) → IsSpared it
none_checked g world (Ok sizes) path h it log unsent old new writer tells =
    λ why refused. absurd (line_free (sound_line sizes) log note.Log it.ending
    (output_with unsent old new writer) tells why
    refused)
none_checked g world (Err why) path h it log unsent old new writer tells =
    spared_by it why tells.0 (elim h [
      | inl refused ↦ itself (world.refuses path) why refused
      | inr starved ↦ subst IsNoVerdict (sym starved) no_memory
    ])

pub none_moved : {D : Type 0} (g : Ghosts D) (world : World) (told : Result ℤ FileFault)
    (path : List ℕ) → IsMoved {g = g} world path None told → (it : Run) (was_empty : Bool)
    (unsent : Type 0) (old new : Known) (writer : Bool)
    → TellsMoved was_empty told it.ending (output_with unsent old new writer)
    → IsSpared it × (IsDone it.ending → AsksMove it.words → ⊥)
none_moved g world (Ok version) path h it was_empty unsent old new writer tells = absurd h
none_moved g world (Err why) path h it was_empty unsent old new writer tells =
    (spared_by it why tells.0 (itself (world.refuses path) why h), λ d asks. subst IsDone tells.0 d)

-- why a task left the files alone
pub left_alone : (world : World) (path : List ℕ) (t : Task) (why : FileFault) → LeavesAlone world path t why
    → IsNoVerdict why
left_alone world path t why (inl refused) = itself (world.refuses path) why refused
left_alone world path t why (inr (inl missing)) =
    subst IsNoVerdict (sym missing.0) (itself (λ cause. Unit {0}) (file.Refused Missing) tt)
left_alone world path t why (inr (inr starved)) = subst IsNoVerdict (sym starved.0) no_memory

-- endings before there is a plan, and those of a trial
early_undone : (world : World) (job : Job) (e : Ending) → EndsBefore world job e → ¬ (IsDone e)
early_undone world job ending.Done h d = h
early_undone world job (ending.Noted it) h d = h
early_undone world job e h d = d

pub early_free : (world : World) (job : Job) (e : Ending) → EndsBefore world job e
    → ((why : FileFault) → e ≡ ending.NotOpened why → ⊥) × (IsDone e → ⊥)
early_free world job e h = (
  λ why is. subst (λ (x : Ending). EndsBefore world job x) is h,
  early_undone world job e h,
)

pub trial_free : (world : World) (t : Trial) (e : Ending) (s : Streams) → TrialEnds world.tells t e s
    → (why : FileFault) → e ≡ ending.NotOpened why → ⊥
trial_free world t e s h why is = subst (λ (x : Ending). TrialEnds world.tells t x s) is h

-- words that ask for no job end so
pub unasked_free : (words : List Text) (e : Ending) (unread unsent : Type 0) → Unasked words e unread unsent
    → ((why : FileFault) → e ≡ ending.NotOpened why → ⊥) × (IsDone e → AsksMove words → ⊥)
unasked_free words e unread unsent (inl (inl (help, is), calm)) = (
  λ why same. absurd (cc (is, same)),
  λ d moves. subst (IsAmong DisplayHelp) moves.1.taken help,
)
unasked_free words e unread unsent (inl (inr (version, is, silent), calm)) =
    (λ why same. absurd (cc (is, same)), λ d moves. subst IsDone is d)
unasked_free words e unread unsent (inr (inl (none, is, calm, silent))) =
    (λ why same. absurd (cc (is, same)), λ d moves. subst IsDone is d)
unasked_free words e unread unsent (inr (inr (is, calm, silent))) =
    (λ why same. absurd (cc (is, same)), λ d moves. subst IsDone is d)
