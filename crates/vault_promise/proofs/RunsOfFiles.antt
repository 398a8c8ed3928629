-- Whatever a run does with files, it is one up to the bytes with which the next begins.
use Rattle.std.proofs.Common.{◌≡◌, ◌⊎◌, ℕ, List, [], Option, Some, None, Result, Ok, Err, Bool, inl, inr}
use Rattle.std.proofs.Common.{refl, sym, ◌∙◌, arith, subst, length}
use Rattle.std.proofs.Math.Logic.{∥∥₁_map}
use Rattle.std.specs.Io.KnownBytes.{Appends, Consumes}
use Rattle.std.specs.Prelude.{ℤ, IfSome}
use Rattle.sqlite.specs.Files.{file_state}
use Rattle.sqlite_disk.specs.declared.Disk.{Ghosts}
use Rattle.sqlite_store.specs.declared.store.FileStore.{FileStore}
use Rattle.sqlite.specs.Tree.{Trees}
use Rattle.sqlite_wal.specs.Recovery.{Image}
use Rattle.vault_core.specs.Sound.{Sound}
use Rattle.vault_core.specs.Vault.{Vault as Content}
use Rattle.vault_core.specs.declared.command.Command.{Command}
use Rattle.vault_file.specs.Found.{IsNoVerdict, OpensFrom, SparesStopped, Stays}
use Rattle.vault_engine.proofs.Answering.{appends_nothing}
use Rattle.vault_http.proofs.Bytes.{consumes_nothing}
use Rattle.vault_engine.specs.Passing.{IsBefore, Passage}
use Rattle.sqlite.specs.Held.{Held}
use Rattle.sqlite.specs.State.{HasCleanDisk}
use Rattle.vault_core.specs.Proper.{IsProper}
use Rattle.vault_schema.proofs.Newest.{ours_in_newest}
use Rattle.vault_schema.specs.Stands.{newest}
use Rattle.vault_recover.specs.Crashed.{AreBlank, KeepsEither, KeepsSuch, MayFind}
use Rattle.vault_schema.specs.Holds.{AreOurs, Holds}
use Rattle.vault_jobs.specs.Doing.{Does}
use Rattle.vault_jobs.specs.Outside.{Outside}
use Rattle.vault_jobs.specs.Streams.{Known, Streams, output_with, seen_as, streams, with_turns}
use Rattle.vault_jobs.specs.declared.note.Note.{Note as TaskNote}
use Rattle.vault_jobs.specs.declared.stop.Stop.{Stop}
use Rattle.vault_jobs.specs.declared.task.Outcome.{Outcome}
use Rattle.vault_jobs.specs.declared.task.Outcome.TheVariants as outcome
use Rattle.vault_jobs.specs.declared.task.Task.{Task}
use Rattle.vault_jobs.specs.declared.task.Task.TheVariants as task
use Rattle.vault_app.specs.Files.{DoesOnFile, EndsOnFile, WorksOn, file_passing}
use Rattle.clap.specs.Words.{Text}
use Rattle.vault_words.specs.Commands.{program_app}
use Rattle.vault_words.specs.Jobs.{IsAsked}
use Rattle.vault_words.specs.declared.jobs.Job.{Job}
use Rattle.vault_app.specs.Jobs.{Does as DoesWords, DoesPlan, IsChecked, IsMoved}
use Rattle.vault_app.specs.Plans.{IsProperPlan, IsTaskOf, saying}
use Rattle.vault_app.specs.Asked.{AsksFor, schema_line, sound_line}
use Rattle.vault_app.specs.Ending.{IsDone, Says, said_on}
use Rattle.vault_app.specs.Endings.{NotedLineEnds}
use Rattle.vault_app.specs.Commands.Trial.{TrialEnds}
use Rattle.vault_app.specs.declared.note.Note.{Note}
use Rattle.vault_jobs.specs.declared.trial.Trial.{Trial}
use Rattle.vault_jobs.specs.Tasks.{granted_line}
use Rattle.vault_changes.specs.Grants.{grants_at}
use Rattle.vault_listen.specs.Live.{Turns}
use Rattle.vault_wire.specs.Watching.{is_stopped}
use Rattle.vault_wire.specs.declared.watched.Watched.{Watched}
use Rattle.vault_app.specs.TaskValues.{AreValues}
use Rattle.vault_app.specs.World.{World, outside_in}
use Rattle.vault_file.specs.Moved.{MovesAs, StaysUnmoved}
use Rattle.vault_app.specs.Commands.Check.{TellsSizes}
use Rattle.vault_app.specs.Commands.Migrate.{TellsMoved}
use Rattle.vault_file.specs.declared.fault.NotOpened.{NotOpened as FileFault}
use Rattle.vault_verdict.specs.declared.sizes.Sizes.{Sizes}
use Rattle.vault_app.specs.declared.ending.Ending.{Ending}
use Rattle.vault_app.specs.declared.ending.Ending.TheVariants as ending
use Rattle.vault_app.specs.declared.note.Note.TheVariants as note
use Rattle.vault_app.specs.declared.plan.Plan.{Plan}
use Rattle.vault_app.specs.declared.plan.Plan.TheVariants as plan
use Rattle.vault_promise.proofs.Batching.{batch_works}
use Rattle.vault_promise.proofs.GivenPairs.{given_more}
use Rattle.vault_promise.proofs.MoreTold.{done_more, some_more, tells_more}
use Rattle.vault_promise.proofs.OneKind.{only_move}
use Rattle.vault_promise.proofs.PipedMessages.{pipe_works}
use Rattle.vault_promise.proofs.RunHistories.{perhaps_sound}
use Rattle.vault_promise.proofs.ListedMerchants.{set_works}
use Rattle.vault_promise.proofs.Begun.{listed_serve_works}
use Rattle.vault_promise.proofs.SettledRights.{changed_works, settle_works, show_works}
use Rattle.vault_promise.proofs.Spared.{early_free, left_alone, line_free, new_spared, no_task}
use Rattle.vault_promise.proofs.Spared.{none_checked, none_moved, spared_by, trial_free, unasked_free}
use Rattle.vault_promise.proofs.Sweeping.{timed_sweep_works}
use Rattle.vault_promise.proofs.TaskAnswers.{Works, commands_works, part_of}
use Rattle.vault_app.specs.Saying.{OfCheck, OfMove, OfTask, OfTrial, Purpose}
use Rattle.vault_promise.proofs.Unplanned.{Fits, IsAt, IsChecking, any_early, check_stays, fits, found_at}
use Rattle.vault_promise.proofs.Unplanned.{trial_stays, unasked}
use Rattle.vault_promise.specs.Runs.{GoesOutAside, IsMoving, IsTrialFor}
use Rattle.vault_promise.specs.Runs.{AreNew, AreOf, AsksMove, Bear, Comes, EndsSaid, EveryRunIsOne, IsFound}
use Rattle.vault_promise.specs.Runs.{IsRun, IsSpared, Last, Leads, Leaves, Moments, Spared, Rests, Run}
use Rattle.vault_promise.specs.Runs.{TellsOnly, Texts, Work, around, last_of, outside_of, perhaps}
use Rattle.vault_promise.specs.Runs.{said_between, told_by, world_with}
use Rattle.vault_promise.specs.Shapes.{shape_of}
use Rattle.vault_promise.specs.Told.{AllDone, IsNext, IsQuiet, Tells, WentPart}

-- nothing came in
abbrev IsStill : Streams → Type 0
IsStill s = Consumes s.left_old s.left_new []

-- what a task does, by its clause
works : (at : Outside) (t : Task) (w : Passage) (V : Content) (b : IsBefore w V) → Sound V → (s : Streams)
    (r : Result Outcome Stop) (it : Option TaskNote) (unread unsent : Type 0)
    → (unread → IsStill s) → (unsent → IsQuiet s) → AreValues t
    → (F : Type 0) → (F → r ≡ Ok outcome.Done) → Does at t w r it (seen_as unread unsent s)
    → Works at w V (shape_of t V) F s
works at (task.Change c) w V b sound s r it unread unsent still quiet values F fin h =
    changed_works at w V b sound s unsent quiet F c values.0 values.1 r fin h.works
works at (task.Give rights now) w V b sound s r it unread unsent still quiet values F fin h =
    commands_works at w V b s unsent quiet F (grants_at now rights.items)
    (granted_line (length rights.items)) values r fin h.works
works at (task.Settle rights now) w V b sound s r it unread unsent still quiet values F fin h =
    settle_works at w V b sound s unsent quiet F rights now values.0 values.1 r fin h.works
works at (task.SetMerchants rows now) w V b sound s r it unread unsent still quiet values F fin h =
    set_works at w V b sound s unsent quiet F rows now values r fin h.works
works at (task.Sweep who now giver) w V b sound s r it unread unsent still quiet values F fin h =
    timed_sweep_works who now values.0 values.1 values.2 at w V b sound s unsent quiet F giver
    r fin
    h.works
works at (task.Batch who now digits) w V b sound s r it unread unsent still quiet values F fin h =
    batch_works at who now digits values.0 values.1 w V b s F r fin unread unsent quiet h.works
works at (task.Pipe now digits) w V b sound s r it unread unsent still quiet values F fin h =
    pipe_works at now digits w V b s F r fin unread unsent still quiet h.works
works at (task.Serve service) w V b sound s r it unread unsent still quiet values F fin h =
    listed_serve_works at w V b sound s unsent quiet F service values r fin h.works
works at (task.Show shown) w V b sound s r it unread unsent still quiet values F fin h =
    show_works at w V b sound s unsent quiet F shown r fin h.works

-- who finds no more finds what was found
finds_less : (image next : Image) (Are : Trees → Type 0)
    → ((found : Trees) → MayFind next found → MayFind image found) → KeepsSuch image Are → KeepsSuch next Are
finds_less image next Are less keeps found may = keeps found (less found may)

are_less : (image next : Image) (V : Content) (c : Option Command)
    → ((found : Trees) → MayFind next found → MayFind image found) → AreOf image V c → AreOf next V c
are_less image next V c less (inl keeps) = inl (finds_less image next _ less keeps)
are_less image next V c less (inr (inl (none, some))) = inr (inl (none, finds_less image next _ less some))
are_less image next V c less (inr (inr (none, empty, (before, blank, first)))) =
    inr (inr (none, empty, (before, blank, finds_less image next _ less first)))

new_less : (image next : Image) (V : Content) (c : Option Command)
    → ((found : Trees) → MayFind next found → MayFind image found) → AreNew image V c → AreNew next V c
new_less image next V c less (inl keeps) = inl (finds_less image next _ less keeps)
new_less image next V c less (inr (none, empty, (before, blank, first))) =
    inr (none, empty, (before, blank, finds_less image next _ less first))

-- bytes in the newest schema are of the vault
new_are_of : (image : Image) (V : Content) (c : Option Command) → AreNew image V c → AreOf image V c
new_are_of image V c (inl keeps) = inl keeps
new_are_of image V c (inr blank) = inr (inr blank)

-- a run that rests, and leaves bytes that are found as those before it
rests : (next : Image) (it : Run) → Rests it → IsSpared it
    → (IsDone it.ending → AsksMove it.words → ⊥)
    → ((found : Trees) → MayFind next found → MayFind it.begins found) → IsRun it next
rests next it calm free other less V c sound proper of = ∣ (
  inr (calm, record { newest = λ new. free; moving = λ are moves. free }),
  record {
    of = are_less it.begins next V c less of;
    newest = λ how. elim how [
      | inl moved ↦ absurd (other moved.0 moved.1)
      | inr new ↦ new_less it.begins next V c less new
    ];
  },
) ∣₁

-- bytes in which the vault is found hold it
bears : (image : Image) (V : Content) (found : Trees) → MayFind image found → AreOurs found V → Bear image V
bears image V found may ours = ∣ (found, may, inl (newest, ours_in_newest V found ours)) ∣₁

-- where nothing is undecided and the vault is found, the bytes are of it
are_ours : (next : Image) (V : Content) (c : Option Command) → c ≡ None
    → KeepsSuch next (λ found. AreOurs found V) → AreNew next V c
are_ours next V c none keeps =
    let one : KeepsEither next V V = λ found may. ∥∥₁_map (keeps found may) (λ ours. inl ours) in
    subst (λ d. AreNew next V d) (sym none) (inl one)

-- a run from these bytes up to those
abbrev IsFrom : Image → Run → Image → Type 0
IsFrom image r next = (V : Content) (c : Option Command) → Sound V → IfSome c IsProper → AreOf image V c
    → ∥ ((it : Comes V c r) × Leads V c r it next) ∥₁

-- a run from these bytes, at these moments
abbrev run_of : Image → Moments → Texts → List Text → Ending → Streams → Last → Run
run_of image moments texts words end s last = record {
  begins = image;
  words = words;
  moments = moments;
  texts = texts;
  ending = end;
  streams = s;
  last = last;
}

-- a job that has a line wrote it, or a beginning of it
line_out : (text : List ℕ) (noted : Bool) (of : Note) (e : Ending) (s : Streams) (unsent : Type 0)
    → NotedLineEnds text noted of e (output_with unsent s.sent_old s.sent_new s.writer) → WentPart s text
line_out text noted of e s unsent (ending.Done, ends, is) = part_of s text ends.1
line_out text noted of e s unsent (ending.Stopped why, ends, is) = ends.2
line_out text noted of e s unsent (line, ends, is) = absurd ends

-- so a check and a move
check_out : (it : Purpose) → IsChecking it → (r : Run) (log : Bool) (told : Result Sizes FileFault)
    (unsent : Type 0) → (unsent → IsQuiet r.streams)
    → TellsSizes log told r.ending
    (output_with unsent r.streams.sent_old r.streams.sent_new r.streams.writer) → GoesOutAside it r
check_out (OfTrial Is) is r log told unsent quiet tells = absurd is
check_out (OfCheck path) is r log (Ok sizes) unsent quiet tells =
    inr (sizes, line_out (sound_line sizes) log note.Log r.ending r.streams unsent tells)
check_out (OfCheck path) is r log (Err why) unsent quiet tells = inl (quiet tells.1)
check_out (OfMove path) is r log told unsent quiet tells = absurd is
check_out (OfTask path Is) is r log told unsent quiet tells = absurd is

move_out : (it : Purpose) → IsMoving it → (r : Run) (was_empty : Bool) (told : Result ℤ FileFault)
    (unsent : Type 0) → (unsent → IsQuiet r.streams)
    → TellsMoved was_empty told r.ending
    (output_with unsent r.streams.sent_old r.streams.sent_new r.streams.writer) → GoesOutAside it r
move_out (OfTrial Is) is r was_empty told unsent quiet tells = absurd is
move_out (OfCheck path) is r was_empty told unsent quiet tells = absurd is
move_out (OfMove path) is r was_empty (Ok version) unsent quiet tells =
    inr (line_out schema_line was_empty note.Made r.ending r.streams unsent tells)
move_out (OfMove path) is r was_empty (Err why) unsent quiet tells = inl (quiet tells.1)
move_out (OfTask path Is) is r was_empty told unsent quiet tells = absurd is

try_out : (it : Purpose) (r : Run) (t : Trial) → IsTrialFor it (around r) t
    → TrialEnds (told_by r.moments) t r.ending r.streams → GoesOutAside it r
try_out (OfTrial Is) r t is ends = (t, is, ends)
try_out (OfCheck path) r t is ends = absurd is
try_out (OfMove path) r t is ends = absurd is
try_out (OfTask path Is) r t is ends = absurd is

-- and a trial whose clock may tell more
trial_out : (tells more : Turns) → ((turn now : ℕ) → tells turn now → more turn now) → (t : Trial)
    (e : Ending) (s : Streams) → TrialEnds tells t e s → TrialEnds more t e s
trial_out tells more so t ending.Done s (calm, it) = (
  calm,
  record {
    bytes = it.bytes;
    messages = it.messages;
    fault = it.fault;
    exchanges = it.exchanges;
    read = it.read;
    reads = it.reads;
    fixed = given_more tells more so t.moment t.digits _ it.fixed;
    asked = it.asked;
    whole = it.whole;
    ended = it.ended;
    sent = it.sent;
  },
)
trial_out tells more so t (ending.Stopped why) s (caused, of, it) = (
  caused,
  of,
  record {
    bytes = it.bytes;
    messages = it.messages;
    exchanges = it.exchanges;
    rest = it.rest;
    last = it.last;
    count = it.count;
    read = it.read;
    begins = it.begins;
    fixed = given_more tells more so t.moment t.digits _ it.fixed;
    asked = it.asked;
    first = it.first;
    ends = it.ends;
    sent = it.sent;
  },
)
trial_out tells more so t e s h = absurd h

module _ {D : Type 0} {g : Ghosts D} (world : World) (image next : Image) (moments : Moments) (texts : Texts)
    (so : TellsOnly world moments texts) where
  -- files that keep what they kept
  stays_of : (left : FileStore D g) → Leaves image (Some left) next → Stays image left → (V : Content)
      (c : Option Command) → AreOf image V c → AreOf next V c
  stays_of left may stays V c (inl keeps) = inl (stays.either may.0 V (perhaps V c) keeps next may.1)
  stays_of left may stays V c (inr (inl (none, some))) =
      inr (inl (none, stays.some may.0 V some next may.1))
  stays_of left may stays V c (inr (inr (none, empty, (before, blank, first)))) =
      inr (inr (none, empty, (before, blank, stays.empty may.0 before blank first next may.1)))

  stays_new : (left : FileStore D g) → Leaves image (Some left) next → Stays image left → (V : Content)
      (c : Option Command) → AreNew image V c → AreNew next V c
  stays_new left may stays V c (inl keeps) = inl (stays.either may.0 V (perhaps V c) keeps next may.1)
  stays_new left may stays V c (inr (none, empty, (before, blank, first))) =
      inr (none, empty, (before, blank, stays.empty may.0 before blank first next may.1))

  stays_run : (left : FileStore D g) → Leaves image (Some left) next → (it : Run)
      → Rests it → (it.begins ≡ image)
      → ((V : Content) (c : Option Command) → Sound V → IfSome c IsProper → Spared V c it)
      → (IsDone it.ending → AsksMove it.words → ⊥) → Stays image left → IsFrom image it next
  stays_run left may it calm same spared other stays V c sound proper of = ∣ (
    inr (calm, spared V c sound proper),
    record {
      of = stays_of left may stays V c of;
      newest = λ how. elim how [
        | inl moved ↦ absurd (other moved.0 moved.1)
        | inr new ↦ stays_new left may stays V c (subst (λ x. AreNew x V c) same new)
      ];
    },
  ) ∣₁

  -- files that move to the newest schema
  moves_new : (left : FileStore D g) → Leaves image (Some left) next → MovesAs image left → (V : Content)
      (c : Option Command) → AreOf image V c → AreNew next V c
  moves_new left may moves V c (inl keeps) = inl (moves.either may.0 V (perhaps V c) keeps next may.1)
  moves_new left may moves V c (inr (inl (none, some))) =
      are_ours next V c none (moves.stopped may.0 V some next may.1)
  moves_new left may moves V c (inr (inr (none, empty, (before, blank, first)))) =
      are_ours next V c none (subst (λ W. KeepsSuch next (λ found. AreOurs found W)) (sym empty)
      (moves.blank may.0 before blank first next may.1))

  moves_run : (left : FileStore D g) → Leaves image (Some left) next → (it : Run)
      → Rests it → IsSpared it → MovesAs image left → IsFrom image it next
  moves_run left may it calm free moves V c sound proper of =
      let new = moves_new left may moves V c of in ∣ (
        inr (calm, record { newest = λ was. free; moving = λ are asks. free }),
        record { of = new_are_of next V c new; newest = λ how. new },
      ) ∣₁

  -- what a check and a migration come to
  checked : (path : List ℕ) → world.holds path image → (left : FileStore D g) (told : Result Sizes FileFault)
      → IsChecked world path (Some left) told → Stays image left
  checked path at left (Ok sizes) h = (h image at).2
  checked path at left (Err why) h = (h image at).2

  -- a refused check or open spares what is in the newest schema; and what is asked for is no move
  spared_open : (left : FileStore D g) → Leaves image (Some left) next → (it : Run) (why : FileFault)
      → it.ending ≡ ending.NotOpened why → it.begins ≡ image → (AsksMove it.words → ⊥)
      → SparesStopped image why → (V : Content) (c : Option Command) → Sound V → IfSome c IsProper
      → Spared V c it
  spared_open left may it why is same other spares V c sound proper = record {
    newest = λ new. spared_by it why is (new_spared image why spares V c sound proper
        (subst (λ x. AreNew x V c) same new));
    moving = λ are asks. absurd (other asks);
  }

  -- a refused move spares it in whatever schema
  old_spared : (left : FileStore D g) → Leaves image (Some left) next → (why : FileFault)
      → StaysUnmoved image left why → (V : Content) (c : Option Command) → Sound V → IfSome c IsProper
      → AreOf image V c → IsNoVerdict why
  old_spared left may why stays V c sound proper (inl keeps) =
      new_spared image why (stays.refuses may.0).spared V c sound proper (inl keeps)
  old_spared left may why stays V c sound proper (inr (inl (none, some))) =
      (stays.refuses may.0).in_some V sound some
  old_spared left may why stays V c sound proper (inr (inr blank)) =
      new_spared image why (stays.refuses may.0).spared V c sound proper (inr blank)

  spared_move : (left : FileStore D g) → Leaves image (Some left) next → (it : Run) (why : FileFault)
      → it.ending ≡ ending.NotOpened why → it.begins ≡ image → StaysUnmoved image left why → (V : Content)
      (c : Option Command) → Sound V → IfSome c IsProper → Spared V c it
  spared_move left may it why is same stays V c sound proper = record {
    newest = λ new. spared_by it why is (new_spared image why (stays.refuses may.0).spared V c sound proper
        (subst (λ x. AreNew x V c) same new));
    moving = λ are asks. spared_by it why is (old_spared left may why stays V c sound proper
        (subst (λ x. AreOf x V c) same are));
  }

  moved : (path : List ℕ) → world.holds path image → (left : FileStore D g) (told : Result ℤ FileFault)
      → IsMoved world path (Some left) told → Leaves image (Some left) next → (it : Run) → Rests it
      → it.begins ≡ image → (was_empty : Bool) (unsent : Type 0) (old new : Known) (writer : Bool)
      → TellsMoved was_empty told it.ending (output_with unsent old new writer) → IsFrom image it next
  moved path at left (Ok version) h may it calm same was_empty unsent old new writer tells =
      moves_run left may it calm
      (λ why is. absurd (line_free schema_line was_empty note.Made it.ending
      (output_with unsent old new writer) tells why is))
      (h image at)
  moved path at left (Err why) h may it calm same was_empty unsent old new writer tells =
      stays_run left may it calm same (spared_move left may it why tells.0 same (h image at))
      (λ d asks. absurd (subst IsDone tells.0 d)) (h image at).stays

  -- a check
  checks_run : (path : List ℕ) → world.holds path image → (left : FileStore D g)
      (told : Result Sizes FileFault) → IsChecked world path (Some left) told → Leaves image (Some left) next
      → (it : Run) → Rests it → it.begins ≡ image → (AsksMove it.words → ⊥) → (log : Bool)
      (unsent : Type 0) (old new : Known) (writer : Bool)
      → TellsSizes log told it.ending (output_with unsent old new writer) → IsFrom image it next
  checks_run path at left (Ok sizes) h may it calm same other log unsent old new writer tells =
      stays_run left may it calm same
      (λ V c sound proper. let free : IsSpared it =
      λ why refused. absurd (line_free (sound_line sizes) log note.Log it.ending
      (output_with unsent old new writer) tells why
      refused) in record { newest = λ new. free; moving = λ are asks. free })
      (λ d asks. absurd (other asks)) (h image at).2
  checks_run path at left (Err why) h may it calm same other log unsent old new writer tells =
      stays_run left may it calm same
      (spared_open left may it why tells.0 same other ((h image at).0 may.0).spared)
      (λ d asks. absurd (other asks)) (h image at).2

  -- a file that is opened, or refused with a connection
  module _ (path : List ℕ) (at : world.holds path image) (left : FileStore D g)
      (may : Leaves image (Some left) next) (t : Task) (end : Ending)
      (s : Streams) (values : AreValues t) (r : Run) (ends : r.ending ≡ end)
      (asked : AsksFor r.words (λ job. IsTaskOf (around r) job t)) (says : EndsSaid r)
      (of : (X : Content) (cs : List Command) → Tells (outside_in world) (shape_of t X) X cs s
      → Tells (outside_of r) (shape_of t X) X cs r.streams)
      (of_done : (X : Content) (cs : List Command) → AllDone (outside_in world) (shape_of t X) X cs s
      → AllDone (outside_of r) (shape_of t X) X cs r.streams)
      (of_next : (X : Content) (cs : List Command) (o : Option Command)
      → IfSome o (IsNext (outside_in world) (shape_of t X) X cs s)
      → IfSome o (IsNext (outside_of r) (shape_of t X) X cs r.streams))
      (calm : (why : FileFault) → end ≡ ending.NotOpened why → IsQuiet s → Rests r)
      (same : r.begins ≡ image) where
    bear : (X : Content) → Bear image X → Bear r.begins X
    bear X held = subst (λ x. Bear x X) (sym same) held

    other : AsksMove r.words → ⊥
    other asks = no_task (around r) (saying asked.0).purpose t asked.2
        (only_move r.words asks.0 asked.0 asks.1 asked.1 asks.2)

    -- a task that worked on the vault W comes to this
    work_on : (V : Content) (c : Option Command) (W : Content) → (W ≡ V) ⊎ (W ≡ perhaps V c)
        → Bear image W → (w : Passage)
        → Works (outside_in world) w W (shape_of t W) (IsDone r.ending) s
        → ((why : FileFault) → r.ending ≡ ending.NotOpened why → ⊥)
        → ((A B : Content) → w.left_new A B → KeepsEither next A B)
        → (it : Comes V c r) × Leads V c r it next
    work_on V c W is held w it opens kept =
        let done : Work V c r = record {
          task = t;
          asked = asked;
          opened = W;
          is = is;
          holds = bear W held;
          answered = it.answered;
          undecided = it.undecided;
          proper = it.proper;
          last_proper = it.last_proper;
          tells = of W it.answered it.tells;
          next = of_next W it.answered it.undecided it.next;
          done = λ d. of_done W it.answered (it.done d);
          says = says;
          opens = opens;
        } in
        (inl done, record { of = inl (kept _ _ it.left); newest = λ how. inl (kept _ _ it.left) })

    module _ (result : Result Outcome Stop) (it : Option TaskNote) (unread unsent : Type 0)
        (still : unread → IsStill s)
        (quiet : unsent → IsQuiet s) (fin : IsDone r.ending → result ≡ Ok outcome.Done)
        (free : (why : FileFault) → r.ending ≡ ending.NotOpened why → ⊥)
        (on : WorksOn (world.holds path) left
        (λ p. Does (outside_in world) t p result it (seen_as unread unsent s))) where
      abbrev conn : Held (FileStore D g)
      conn = on.opened

      abbrev opens : OpensFrom image conn
      opens = on.found image at

      abbrev w : Passage
      w = file_passing conn left on.broken

      -- the trees that the open found in the bytes
      abbrev found : Trees
      found = (file_state opens.first).committed.trees

      clean : HasCleanDisk (file_state conn)
      clean = on.clean may.0

      finds : MayFind image found
      finds =
          let was : HasCleanDisk (file_state opens.first) = omega (arith, opens.clean, clean) in
          (opens.found was).found.holds

      -- a vault that is held
      on_one : (V : Content) (c : Option Command) (W : Content) → (W ≡ V) ⊎ (W ≡ perhaps V c) → Sound W
          → Bear image W → Holds (file_state conn) W
          → (it : Comes V c r) × Leads V c r it next
      on_one V c W is sound held holds =
          work_on V c W is held w
          (works (outside_in world) t w W (may.0, (holds, sound)) sound s result it unread unsent
          still quiet
          values
          (IsDone r.ending) fin on.done)
          free
          (λ A B leaves. leaves next may.1)

      worked : IsFrom image r next
      worked V c sound proper (inl keeps) =
          let other : Sound (perhaps V c) = perhaps_sound V c sound proper in
          ∥∥₁_map (keeps found finds) (λ ours. elim ours [
            | inl is ↦ on_one V c V (inl refl) sound (bears image V found finds is)
                (opens.stands clean V sound is)
            | inr is ↦ on_one V c (perhaps V c) (inr refl) other (bears image (perhaps V c) found finds is)
                (opens.stands clean (perhaps V c) other is)
          ])
      worked V c sound proper (inr (inl (none, some))) =
          let held : Bear image V = ∥∥₁_map (some found finds) (λ it. (found, finds, inl it)) in
          ∥∥₁_map (opens.some clean V sound some) (on_one V c V (inl refl) sound held)
      worked V c sound proper (inr (inr (none, empty, (before, blank, first)))) =
          let held : Bear image V = ∥∥₁_map (first found finds) (λ it. elim it [
            | inl same ↦ (found, finds, inr (empty, subst AreBlank (sym same) blank))
            | inr ours ↦ (
              found,
              finds,
              inl (newest, ours_in_newest V found (subst (λ W. AreOurs found W) (sym empty) ours)),
            )
          ]) in
          ∥∥₁_map (opens.empty clean before blank first)
          (λ is. on_one V c V (inl refl) sound held (subst (Holds (file_state conn)) (sym empty) is))

    -- a task on files that are opened, or refused with a connection
    on_some : (unread unsent : Type 0) → (unread → IsStill s) → (unsent → IsQuiet s)
        → EndsOnFile world path (Some left) t end (seen_as unread unsent s) → IsFrom image r next
    on_some unread unsent still quiet h = by_ending end refl h
      where
        by_ending : (e : Ending) → end ≡ e
            → DoesOnFile (outside_in world) (world.holds path) left t e (seen_as unread unsent s) → IsFrom
            image r next
        by_ending ending.Done is h = worked (Ok outcome.Done) None unread unsent still quiet (λ _. refl)
            (λ why d. absurd (cc (d, ends, is))) h
        by_ending (ending.Noted note.Log) is h = absurd h
        by_ending (ending.Noted note.Made) is h = absurd h
        by_ending (ending.Noted (note.Task it)) is h =
            worked (Ok outcome.Done) (Some it) unread unsent still quiet (λ _. refl)
            (λ why d. absurd (cc (d, ends, is))) h
        by_ending ending.Version is h = absurd h
        by_ending (ending.Refused n) is h =
            worked (Ok (outcome.Refused n)) None unread unsent still quiet
            (λ d. absurd (subst IsDone (ends ∙ is) d)) (λ why d. absurd (cc (d, ends, is))) h
        by_ending (ending.Misnamed it) is h = absurd h
        by_ending (ending.Unfinished it) is h = absurd h
        by_ending ending.SomeRefused is h =
            worked (Ok outcome.SomeRefused) None unread unsent still quiet
            (λ d. absurd (subst IsDone (ends ∙ is) d)) (λ why d. absurd (cc (d, ends, is))) h
        by_ending ending.BadWords is h = absurd h
        by_ending (ending.NotOpened why) is h = stays_run left may r (calm why is (quiet h.2)) same
            (spared_open left may r why (ends ∙ is) same other (h.0.tells image at may.0).spared)
            (λ d asks. absurd (other asks)) (h.0.stays image at)
        by_ending (ending.Stopped stop) is h =
            worked (Err stop) None unread unsent still quiet (λ d. absurd (subst IsDone (ends ∙ is) d))
            (λ why d. absurd (cc (d, ends, is))) h

  -- a run whose words ask for a job with this plan
  each : (left : Option (FileStore D g)) (words : List Text) (job : Job) → IsAsked program_app words job
      → (p : Plan) → Fits (world_with moments texts) job p → (end : Ending) (s : Streams) (last : Last)
      → EndsSaid (run_of image moments texts words end s last) → (unread unsent : Type 0)
      → (unread → IsStill s) → (unsent → IsQuiet s) → IsProperPlan p
      → DoesPlan world left p end (seen_as unread unsent s)
      → IsAt world image p → Leaves image left next
      → IsRun (run_of image moments texts words end s last) next
  each left words job asked (plan.Trial t) asks end s last says unread unsent still quiet values h at leaves =
      rests next (run_of image moments texts words end s last) (
        inr (inr (
          job,
          asked,
          try_out (saying job).purpose (run_of image moments texts words end s last) t asks
              (trial_out world.tells (told_by moments) so.tells t end s h.1),
        )),
        says,
      )
      (λ why is. absurd (trial_free world t end s h.1 why is))
      (λ d moves. trial_stays (saying job).purpose (world_with moments texts) t asks
      (only_move words moves.0 job moves.1 asked moves.2))
      (subst (λ l. Leaves image l next) h.0 leaves)
  each (Some left) words job asked (plan.Check path) asks end s last says unread unsent still quiet values
      h at leaves =
      checks_run path.now at left h.1.0 h.1.1 leaves (run_of image moments texts words end s last) (
        inr (inr (
          job,
          asked,
          check_out (saying job).purpose asks (run_of image moments texts words end s last) h.1.2.0 h.1.0 unsent
              quiet h.1.2.2,
        )),
        says,
      ) refl
      (λ moves. check_stays (saying job).purpose asks (only_move words moves.0 job moves.1 asked moves.2))
      h.1.2.0 unsent s.sent_old s.sent_new s.writer h.1.2.2
  each None words job asked (plan.Check path) asks end s last says unread unsent still quiet values
      h at leaves =
      rests next (run_of image moments texts words end s last) (
        inr (inr (
          job,
          asked,
          check_out (saying job).purpose asks (run_of image moments texts words end s last) h.1.2.0 h.1.0 unsent
              quiet h.1.2.2,
        )),
        says,
      )
      (none_checked g world h.1.0 path.now h.1.1 (run_of image moments texts words end s last) h.1.2.0 unsent
      s.sent_old s.sent_new s.writer h.1.2.2)
      (λ d moves. check_stays (saying job).purpose asks (only_move words moves.0 job moves.1 asked moves.2))
      leaves
  each (Some left) words job asked (plan.Migrate path) asks end s last says unread unsent still quiet values
      h at leaves =
      moved path.now at left h.1.0 h.1.1 leaves (run_of image moments texts words end s last) (
        inr (inr (
          job,
          asked,
          move_out (saying job).purpose asks (run_of image moments texts words end s last) h.1.2.0 h.1.0 unsent
              quiet h.1.2.2,
        )),
        says,
      ) refl h.1.2.0 unsent s.sent_old s.sent_new s.writer h.1.2.2
  each None words job asked (plan.Migrate path) asks end s last says unread unsent still quiet values
      h at leaves =
      let r : Run = run_of image moments texts words end s last in
      let free = none_moved g world h.1.0 path.now h.1.1 r h.1.2.0 unsent s.sent_old s.sent_new s.writer
      h.1.2.2 in
      rests next r (
        inr (inr (
          job,
          asked,
          move_out (saying job).purpose asks (run_of image moments texts words end s last) h.1.2.0 h.1.0 unsent
              quiet h.1.2.2,
        )),
        says,
      ) free.0 free.1 leaves
  each (Some left) words job asked (plan.Do path t) asks end s last says unread unsent still quiet values
      h at leaves =
      let r : Run = run_of image moments texts words end s last in
      let inner : Outside = outside_in world in
      let outer : Outside = outside_of r in
      on_some path.now at left leaves t end s values r
      refl (job, asked, asks) says
      (λ X cs told. tells_more inner outer so.tells so.looks (shape_of t X) X cs s told)
      (λ X cs done. done_more inner outer so.tells so.looks (shape_of t X) X cs s done)
      (λ X cs o next. some_more inner outer so.tells so.looks (shape_of t X) X cs s o next)
      (λ why is silent. (inr (inl ((why, is), silent)), says))
      refl unread unsent still quiet h
  each None words job asked (plan.Do path t) asks end s last says unread unsent still quiet values
      h at leaves =
      let r : Run = run_of image moments texts words end s last in
      rests next r (inr (inl ((h.0, h.1), quiet h.4)), says)
      (spared_by r h.0 h.1 (left_alone world path.now t h.0 h.2))
      (λ d moves. no_task (world_with moments texts) (saying job).purpose t asks
      (only_move words moves.0 job moves.1 asked moves.2)) leaves

  -- and whatever words it has
  all : (left : Option (FileStore D g)) (words : List Text) (end : Ending) (s : Streams) (last : Last)
      → EndsSaid (run_of image moments texts words end s last)
      → (unread unsent : Type 0) → (unread → IsStill s) → (unsent → IsQuiet s)
      → DoesWords world left words end (seen_as unread unsent s)
      → IsFound words (λ path. world.holds path image) → Leaves image left next
      → IsRun (run_of image moments texts words end s last) next
  all left words end s last says unread unsent still quiet (inl (job, asked, inl (p, is, proper, h)))
      at leaves =
      each left words job asked p (fits world moments texts so job p is) end s last says unread unsent still
      quiet proper h
      (found_at world image job p is (λ path named. at job path asked named)) leaves
  all left words end s last says unread unsent still quiet
      (inl (job, asked, inr (why, none, calm, silent))) at leaves =
      let free = early_free world job end why in
      rests next (run_of image moments texts words end s last)
      (inl (inl ((job, asked, any_early world job end why), quiet silent)), says)
      (λ fault is. absurd (free.0 fault is)) (λ d moves. free.1 d)
      (subst (λ l. Leaves image l next) none leaves)
  all left words end s last says unread unsent still quiet (inr (none, without)) at leaves =
      let free = unasked_free words end unread unsent without in
      rests next (run_of image moments texts words end s last)
      (inl (inr (unasked words end unread unsent (IsQuiet s) quiet without)), says)
      (λ fault is. absurd (free.0 fault is)) free.1
      (subst (λ l. Leaves image l next) none leaves)

-- what was said between two states of the streams
says_between : {W E : Type 0} (contents : W → Known) (said : E → Known) (o o' : Watched W) (e e' : Watched E)
    (why : List ℕ) (end : Ending) → Says why end (said_on contents o o') (said_on said e e')
    → Says why end (said_between (contents o.inner) (contents o'.inner) (is_stopped o'))
    (said_between (said e.inner) (said e'.inner) (is_stopped e'))
says_between contents said o o' e e' why end says = by_end end says
  where
    no_output : o' ≡ o → Appends (contents o.inner) (contents o'.inner) []
    no_output same = subst (λ u. Appends (contents o.inner) (contents u.inner) []) (sym same)
        (appends_nothing (contents o.inner))

    no_errors : e' ≡ e → Appends (said e.inner) (said e'.inner) []
    no_errors same = subst (λ u. Appends (said e.inner) (said u.inner) []) (sym same)
        (appends_nothing (said e.inner))

    by_end : (end : Ending) → Says why end (said_on contents o o') (said_on said e e')
        → Says why end (said_between (contents o.inner) (contents o'.inner) (is_stopped o'))
        (said_between (said e.inner) (said e'.inner) (is_stopped e'))
    by_end ending.Done (a, b) = (no_output a, no_errors b)
    by_end (ending.Noted it) (a, b) = (no_output a, b)
    by_end ending.Version (a, b) = (a, no_errors b)
    by_end (ending.Refused n) (a, b) = (a, no_errors b)
    by_end (ending.Misnamed it) (a, b) = (a, b)
    by_end (ending.Unfinished about) (a, b) = (a, b)
    by_end ending.SomeRefused (a, b) = (no_output a, no_errors b)
    by_end ending.BadWords (a, b) = (no_output a, b)
    by_end (ending.NotOpened f) (a, b) = (no_output a, b)
    by_end (ending.Stopped f) (a, b) = (no_output a, b)

pub each_is_run : {D R W E K X P : Type 0} (g : Ghosts D) (remaining : R → Known) (contents : W → Known)
    (said : E → Known) (world_of : K → X → P → World) → EveryRunIsOne g remaining contents said world_of
each_is_run g remaining contents said world_of time desk paths image next words result moments texts turns
    i i' o told o' e e' so h at leaves =
    all (world_of time desk paths) image next moments texts so result.1 words h.ending
    (with_turns (streams remaining i i' contents o told) turns) (last_of contents o' said e e')
    (h.why, h.few, says_between contents said told o' e e' h.why h.ending h.says)
    (i' ≡ i) (told ≡ o)
    (λ same. subst (λ u. Consumes (remaining i.inner) (remaining u.inner) []) (sym same)
    (consumes_nothing (remaining i.inner)))
    (λ same. subst (λ u. Appends (contents o.inner) (contents u.inner) []) (sym same)
    (appends_nothing (contents o.inner))) h.does at leaves
