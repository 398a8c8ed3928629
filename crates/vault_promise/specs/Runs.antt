-- Runs of the program over one file, one after the other, each with the bytes that the one before it left or
-- that a stop may leave of these.
use Rattle.std.proofs.Common.{inl, inr}
use Rattle.std.specs.Prelude.{◌≡◌, ◌⊎◌, ℕ, Bool, List, [], ◌∷◌, ◌++◌, IfSome, Option, Some, None, true}
use Rattle.clap.specs.Words.{Text}
use Rattle.sqlite.specs.View.{IsClean}
use Rattle.sqlite_disk.specs.declared.Disk.{Ghosts}
use Rattle.sqlite_pool.specs.Opening as pool
use Rattle.sqlite_store.specs.FileStore as files
use Rattle.sqlite_store.specs.declared.store.FileStore.{FileStore}
use Rattle.sqlite.specs.Tree.{Trees}
use Rattle.sqlite_wal.specs.Recovery.{Image}
use Rattle.vault_core.specs.Proper.{AllProper, IsProper}
use Rattle.vault_core.specs.Runs.{run}
use Rattle.vault_core.specs.Sound.{Sound}
use Rattle.vault_core.specs.Table.{after, reply}
use Rattle.vault_core.specs.Vault.{Vault as Content, empty_vault}
use Rattle.vault_core.specs.declared.command.Command.{Command}
use Rattle.vault_file.specs.Found.{IsNoVerdict}
use Rattle.vault_file.specs.Reopened.{KeepsSome}
use Rattle.vault_recover.specs.Crashed.{AreBlank, KeepsEither, KeepsFirst, MayFind}
use Rattle.vault_schema.specs.Stands.{lookups_of}
use Rattle.vault_steps.specs.Entries.{AreSome}
use Rattle.vault_recover.specs.Histories.{Answered, IsHistory, Reopened, Step, Undecided}
use Rattle.vault_listen.specs.Live.{Turns}
use Rattle.vault_live.specs.Turns.{Turn}
use Rattle.std.specs.Io.KnownBytes.{Appends}
use Rattle.vault_live.specs.Told.{Tells as TellsLine}
use Rattle.vault_wire.specs.Watching.{inner_of, is_stopped}
use Rattle.vault_wire.specs.declared.watched.Watched.{Watched}
use Rattle.vault_words.specs.Why.{HasFewDigits}
use Rattle.vault_jobs.specs.Outside.{Outside}
use Rattle.vault_jobs.specs.Streams.{Known, Streams, seen_as, streams, with_turns}
use Rattle.vault_jobs.specs.declared.task.Task.{Task}
use Rattle.vault_words.specs.Commands.{program_app}
use Rattle.vault_words.specs.Jobs.{IsAsked}
use Rattle.vault_words.specs.declared.jobs.Job.{Job}
use Rattle.vault_app.specs.Plans.{EndsPlanless, IsTaskOf, saying}
use Rattle.vault_app.specs.Asked.{AsksFor, schema_line, sound_line}
use Rattle.vault_app.specs.Commands.Trial.{TrialEnds}
use Rattle.vault_jobs.specs.declared.trial.Trial.{Trial}
use Rattle.vault_verdict.specs.declared.sizes.Sizes.{Sizes}
use Rattle.vault_app.specs.Ending.{IsDone, Said, Says, said_on}
use Rattle.vault_app.specs.Jobs.{DoesRun}
use Rattle.vault_app.specs.Saying.{IsBeside, OfCheck, OfMove, OfTask, OfTrial, Purpose, path_of}
use Rattle.vault_app.specs.World.{World, anything, outside_in}
use Rattle.vault_app.specs.declared.ending.Ending.{Ending}
use Rattle.vault_app.specs.declared.ending.Ending.TheVariants.{NotOpened}
use Rattle.vault_file.specs.declared.fault.NotOpened.{NotOpened as FileFault}
use Rattle.vault_promise.specs.Shapes.{shape_of}
use Rattle.vault_promise.specs.SoundHistories.{Lasts}
use Rattle.vault_promise.specs.Told.{AllDone, IsNext, IsQuiet, Tells, WentPart}

-- which moments a clock may tell at which turn: those of which this is true
abbrev pub Moments : Type 0
Moments = ℕ → ℕ → Bool

abbrev pub told_by : Moments → Turns
told_by moments turn now = moments turn now ≡ true

-- Which texts files may have: the one at a path before a run begins, and at a look between connections. Those
-- of which this is true.
pub record Texts : Type 0 where
  pub said : List ℕ → List ℕ → Bool
  pub looked : List ℕ → ℕ → List ℕ → Bool

-- a world in which these moments and these texts may be told, and anything else
abbrev pub world_with : Moments → Texts → World
world_with moments texts = record anything {
  tells = told_by moments;
  says = λ path text. texts.said path text ≡ true;
  looks = λ path look text. texts.looked path look text ≡ true;
}

-- a world tells no other moments and no other texts than these
pub record TellsOnly (world : World) (moments : Moments) (texts : Texts) : Type 0 where
  pub tells : (turn now : ℕ) → world.tells turn now → told_by moments turn now
  pub says : (path text : List ℕ) → world.says path text → texts.said path text ≡ true
  pub looks : (path : List ℕ) (look : ℕ) (text : List ℕ) → world.looks path look text
      → texts.looked path look text ≡ true

-- What is said as a run ends: what the output has taken in the end, behind what its streams have, and whether
-- it failed; and what the errors had taken before the run and in the end, and whether they failed.
pub record Last : Type 0 where
  pub sent : Known
  pub failed : Bool
  pub errors_old : Known
  pub errors_new : Known
  pub errors_failed : Bool

-- that of an output and of errors
abbrev pub last_of : {W E : Type 0} → (W → Known) → Watched W → (E → Known) → Watched E → Watched E → Last
last_of contents o said e e' = record {
  sent = contents (inner_of o);
  failed = is_stopped o;
  errors_old = said (inner_of e);
  errors_new = said (inner_of e');
  errors_failed = is_stopped e';
}

-- A run: the bytes that the files had before it, its words, the moments that its clock may tell, the texts that
-- files may have, how it ended, what came in and went out, with its turns, and what it said of how it ended.
pub record Run : Type 0 where
  pub begins : Image
  pub words : List Text
  pub moments : Moments
  pub texts : Texts
  pub ending : Ending
  pub streams : Streams
  pub last : Last

-- the world of a run, and what of it is told to its task
abbrev pub around : Run → World
around r = world_with r.moments r.texts

abbrev pub outside_of : Run → Outside
outside_of r = outside_in (around r)

-- what is said between two states of a stream: nothing, or these bytes, or a beginning of them if it failed
abbrev pub said_between : Known → Known → Bool → Said
said_between old new failed =
    record { nothing = Appends old new []; bytes = λ line. TellsLine old new failed line }

-- A run said how it ended and no more: behind what its task put out the output took the line of its ending, or
-- none, and the errors took theirs. What they say of bad words has too few digits for a card number.
abbrev pub EndsSaid : Run → Type 0
EndsSaid r = (why : List ℕ) × HasFewDigits why
    × Says why r.ending (said_between r.streams.sent_new r.last.sent r.last.failed)
    (said_between r.last.errors_old r.last.errors_new r.last.errors_failed)

-- the vault, or the one after a command that may be done
abbrev pub perhaps : Content → Option Command → Content
perhaps V None = V
perhaps V (Some c) = after V c

-- Whoever opens files with these bytes finds the vault, or the one after a command that is undecided; or,
-- where none is, the vault in some schema, as a migration that is stopped leaves it, or no table yet, where
-- it is the empty one. Of bytes that hold no database `MayFind` says all trees may be found, so this is false
-- of them.
abbrev pub AreOf : Image → Content → Option Command → Type 0
AreOf image V c = KeepsEither image V (perhaps V c)
    ⊎ (c ≡ None) × KeepsSome image V
    ⊎ (c ≡ None) × (V ≡ empty_vault) × ((before : Trees) × AreBlank before × KeepsFirst image before)

-- so in the newest schema, or with no table yet
abbrev pub AreNew : Image → Content → Option Command → Type 0
AreNew image V c = KeepsEither image V (perhaps V c)
    ⊎ (c ≡ None) × (V ≡ empty_vault) × ((before : Trees) × AreBlank before × KeepsFirst image before)

-- The bytes hold the vault, in some schema; or no table, where it is the empty one. It tells of bytes that
-- hold a database, as those do of which `AreOf` is true.
abbrev pub Bear : Image → Content → Type 0
Bear image V = ∥ ((found : Trees) × MayFind image found
    × (AreSome (lookups_of V) found ⊎ (V ≡ empty_vault) × AreBlank found)) ∥₁

-- The bytes with which the next run begins: some that a stop may leave of the files, as the run left them;
-- those that they show are among these. A run that was refused the file itself leaves what there was.
module _ {D : Type 0} {g : Ghosts D} where
  abbrev pub Leaves : Image → Option (FileStore D g) → Image → Type 0
  Leaves image (Some left) next = IsClean (files.view left) × (files.state left).may_leave next
  Leaves image None next = (found : Trees) → MayFind next found → MayFind image found

  -- the bytes that the files show, with which the next run begins where nothing was stopped
  abbrev pub shown : FileStore D g → Image
  shown left = pool.image left.pool

-- those that the files of a run show at its end are among them
abbrev pub ShownIsLeft : {D : Type 0} → Ghosts D → Type 0
ShownIsLeft {D} g = (image : Image) (left : FileStore D g) → IsClean (files.view left)
    → Leaves image (Some left) (shown left)

-- the job asks for nothing of the vault in a file: it is a trial, a check or a move to the newest schema
abbrev pub IsAside : Job → Type 0
IsAside job = IsBeside (saying job).purpose

-- the trial is one for this
abbrev pub IsTrialFor : Purpose → World → Trial → Type 0
IsTrialFor (OfTrial Is) world t = Is world t
IsTrialFor purpose world t = ⊥

-- What goes out of a trial, a check or a move. Of a trial it is the texts that answer its messages, by a vault
-- of its own in memory, or a beginning of them. Of a check and a move it is nothing, or the line of the file's
-- sizes, or of its schema, or a beginning of it.
abbrev pub GoesOutAside : Purpose → Run → Type 0
GoesOutAside (OfTrial Is) r =
    (t : Trial) × Is (around r) t × TrialEnds (told_by r.moments) t r.ending r.streams
GoesOutAside (OfCheck path) r = IsQuiet r.streams ⊎ (sizes : Sizes) × WentPart r.streams (sound_line sizes)
GoesOutAside (OfMove path) r = IsQuiet r.streams ⊎ WentPart r.streams schema_line
GoesOutAside (OfTask path Is) r = ⊥

-- the words ask for a trial, a check or a move, and so much went out
abbrev pub IsAsideRun : Run → Type 0
IsAsideRun r = AsksFor r.words (λ job. GoesOutAside (saying job).purpose r)

-- A run rests: it ended without a plan, by a name, a right, a list, a moment or its words, or with help; or
-- its file wasn't opened; and nothing went out but help. Or its words ask for a trial, a check or a move.
abbrev pub Rests : Run → Type 0
Rests r = (EndsPlanless anything r.words r.ending (IsQuiet r.streams)
    ⊎ ((why : FileFault) × (r.ending ≡ NotOpened why)) × IsQuiet r.streams
    ⊎ IsAsideRun r) × EndsSaid r

-- the words ask for a move to the newest schema
abbrev pub IsMoving : Purpose → Type 0
IsMoving (OfMove path) = Unit {0}
IsMoving purpose = ⊥

abbrev pub AsksMove : List Text → Type 0
AsksMove words = AsksFor words (λ job. IsMoving (saying job).purpose)

-- the words ask for a task on a vault
abbrev pub AsksTask : List Text → Type 0
AsksTask words = AsksFor words (λ job. (t : Task) × IsTaskOf anything job t)

-- if the file isn't opened, that isn't for its schema or its rows: it is refused by neither 30 nor 31
abbrev pub IsSpared : Run → Type 0
IsSpared r = (why : FileFault) → r.ending ≡ NotOpened why → IsNoVerdict why

-- What those before a run leave isn't refused so: in the newest schema by no run, and by a move in none.
pub record Spared (V : Content) (c : Option Command) (r : Run) : Type 0 where
  pub newest : AreNew r.begins V c → IsSpared r
  pub moving : AreOf r.begins V c → AsksMove r.words → IsSpared r

-- The words of a run ask for a task, at a moment that they fix or that was told, by a list of which its file
-- had the text. It opened the vault V, or the one after the command that was undecided: the one that the bytes
-- hold. From there commands were answered, one after the other, and then the store failed at one more at most.
-- What went out tells of those answered; and so does the end, where it is done.
pub record Work (V : Content) (c : Option Command) (r : Run) : Type 0 where
  pub task : Task
  pub asked : AsksFor r.words (λ job. IsTaskOf (around r) job task)
  pub opened : Content
  pub is : (opened ≡ V) ⊎ (opened ≡ perhaps V c)
  pub holds : Bear r.begins opened
  pub answered : List Command
  pub undecided : Option Command
  pub proper : AllProper answered
  pub last_proper : IfSome undecided IsProper
  pub tells : Tells (outside_of r) (shape_of task opened) opened answered r.streams
  pub next : IfSome undecided (IsNext (outside_of r) (shape_of task opened) opened answered r.streams)
  pub done : IsDone r.ending → AllDone (outside_of r) (shape_of task opened) opened answered r.streams
  pub says : EndsSaid r
  pub opens : (why : FileFault) → ¬ (r.ending ≡ NotOpened why)

-- it worked so, or it rests, and its file is spared
abbrev pub Comes : Content → Option Command → Run → Type 0
Comes V c r = Work V c r ⊎ Rests r × Spared V c r

-- the vault that it leaves, and the command that it leaves undecided
abbrev pub kept_by : (V : Content) (c : Option Command) (r : Run) → Comes V c r → Content
kept_by V c r (inl w) = run w.answered w.opened
kept_by V c r (inr rests) = V

abbrev pub undecided_by : (V : Content) (c : Option Command) (r : Run) → Comes V c r → Option Command
undecided_by V c r (inl w) = w.undecided
undecided_by V c r (inr rests) = c

-- it worked; or it moved the file to the newest schema, and is done
abbrev pub MakesNew : (V : Content) (c : Option Command) (r : Run) → Comes V c r → Type 0
MakesNew V c r (inl w) = Unit {0}
MakesNew V c r (inr rests) = IsDone r.ending × AsksMove r.words

-- A run that comes to this leads on to these bytes: they are of the vault that it leaves, and in the newest
-- schema where it makes them so, or found them so.
pub record Leads (V : Content) (c : Option Command) (r : Run) (it : Comes V c r) (next : Image) : Type 0 where
  pub of : AreOf next (kept_by V c r it) (undecided_by V c r it)
  pub newest : MakesNew V c r it ⊎ AreNew r.begins V c
      → AreNew next (kept_by V c r it) (undecided_by V c r it)

-- A run up to these bytes: from each sound vault that those before it are of it comes to something, and leads
-- on to these.
abbrev pub IsRun : Run → Image → Type 0
IsRun r next = (V : Content) (c : Option Command) → Sound V → IfSome c IsProper → AreOf r.begins V c
    → ∥ ((it : Comes V c r) × Leads V c r it next) ∥₁

-- the path of the file with which a job works, if it works with one
abbrev pub file_of : Job → Option (List ℕ)
file_of job = path_of (saying job).purpose

-- such bytes are held at the path for which these words ask, if they ask for one
abbrev pub IsFound : List Text → (List ℕ → Type 0) → Type 0
IsFound words Holding = (job : Job) (path : List ℕ) → IsAsked program_app words job
    → file_of job ≡ Some path → Holding path

-- Whatever a run of the program does, by the clause `does` of `run`, in a world where the files at the path
-- of its words hold these bytes, and that tells no other moments and texts than these; and with whatever bytes
-- the next one begins: it is a run up to these.
module _ {D R W E K X P : Type 0} (g : Ghosts D) (remaining : R → Known) (contents : W → Known)
    (said : E → Known) (world_of : K → X → P → World) where
  abbrev pub EveryRunIsOne : Type 0
  EveryRunIsOne =
      (time : K) (desk : X) (paths : P) (image next : Image) (words : List Text)
      (result : ℕ × Option (FileStore D g)) (moments : Moments) (texts : Texts) (turns : List Turn)
      (i i' : Watched R) (o told o' : Watched W) (e e' : Watched E)
      → (let world : World = world_of time desk paths in
      TellsOnly world moments texts
      → let s : Streams = with_turns (streams remaining i i' contents o told) turns in
      (it : DoesRun world words result (seen_as (i' ≡ i) (told ≡ o) s) (said_on contents told o')
      (said_on said e e'))
      → IsFound words (λ path. world.holds path image) → Leaves image result.1 next
      → IsRun (record {
        begins = image;
        words = words;
        moments = moments;
        texts = texts;
        ending = it.ending;
        streams = s;
        last = last_of contents o' said e e';
      }) next)

-- the bytes with which the first of runs begins, or those at the end where there is none
abbrev pub before : List Run → Image → Image
before [] end = end
before (r ∷ rs) end = r.begins

-- runs one after the other, each up to the bytes with which the next one begins, and the last up to the end
abbrev pub Runs : List Run → Image → Type 0
Runs [] end = Unit {0}
Runs (r ∷ rs) end = IsRun r (before rs end) × Runs rs end

-- What they come to, each from what the one before it leaves. The last bytes are of what the last one leaves.
abbrev pub Come : Content → Option Command → List Run → Image → Type 0
Come V c [] end = AreOf end V c
Come V c (r ∷ rs) end = (it : Comes V c r) × Come (kept_by V c r it) (undecided_by V c r it) rs end

-- The bytes with which each of them begins are of the vault that those before it leave, and each leads on to
-- those of the next.
abbrev pub Follow : (V : Content) (c : Option Command) (rs : List Run) (end : Image) → Come V c rs end
    → Type 0
Follow V c [] end come = Unit {0}
Follow V c (r ∷ rs) end (it, more) = AreOf r.begins V c × Leads V c r it (before rs end)
    × Follow (kept_by V c r it) (undecided_by V c r it) rs end more

-- What is said of one run of a reading: by the vault and the undecided command that those before it leave, what
-- it comes to, and those behind it.
abbrev pub OfRun : Type 1
OfRun = (V : Content) (c : Option Command) (r : Run) (it : Comes V c r) (rs : List Run) (end : Image)
    → Come (kept_by V c r it) (undecided_by V c r it) rs end → Type 0

-- it is true of each of them
abbrev pub Each : OfRun → (V : Content) (c : Option Command) (rs : List Run) (end : Image) → Come V c rs end
    → Type 0
Each Is V c [] end come = Unit {0}
Each Is V c (r ∷ rs) end (it, more) =
    Is V c r it rs end more × Each Is (kept_by V c r it) (undecided_by V c r it) rs end more

-- commands are answered from a vault
abbrev pub answers : Content → List Command → List (Step × Content)
answers V [] = []
answers V (c ∷ cs) = (Answered c (reply V c), after V c) ∷ answers (after V c) cs

-- a vault is opened: so it is known of a command that was undecided whether it was done
abbrev pub opening : Option Command → Content → List (Step × Content)
opening None W = (Reopened, W) ∷ []
opening (Some c) W = (Undecided c, W) ∷ (Reopened, W) ∷ []

-- the history of runs: of each that worked the opening, and its answers
abbrev pub history : (V : Content) (c : Option Command) (rs : List Run) (end : Image) → Come V c rs end
    → List (Step × Content)
history V c [] end come = []
history V c (r ∷ rs) end (inl w, more) =
    opening c w.opened
    ++ (answers w.opened w.answered ++ history (run w.answered w.opened) w.undecided rs end more)
history V c (r ∷ rs) end (inr rests, more) = history V c rs end more

-- Whatever runs there are, from bytes that are of a sound vault: they come to a history, in which each opens
-- the vault that those before it leave, with their last command or without, where that is undecided; and what
-- holds of histories holds of it.
abbrev pub RunsComeToHistories : Type 0
RunsComeToHistories =
    (rs : List Run) (end : Image) (V : Content) → Sound V → AreOf (before rs end) V None → Runs rs end
    → ∥ ((come : Come V None rs end) × IsHistory V (history V None rs end come)
    × Lasts V (history V None rs end come) × Follow V None rs end come) ∥₁
