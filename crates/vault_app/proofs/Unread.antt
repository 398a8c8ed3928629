-- What a run that ends with words that are bad, a file that isn't opened or a refusal read and wrote.
use Rattle.std.proofs.Common.{◌≡◌, ◌⊎◌, inl, inr, ℕ, ℤ, List, Bool, Option, Some, None, Result, Ok, Err}
use Rattle.std.proofs.Common.{arith, refl, sym, subst, true, false}
use Rattle.std.specs.Global.{Vec}
use Rattle.std.specs.Prelude.{if◌then◌else◌}
use Rattle.vault_merchants.specs.ListedMerchants.{Wanted}
use Rattle.vault_rights.specs.Named.{Row}
use Rattle.clap.specs.Words.{Text}
use Rattle.sqlite_disk.specs.declared.Disk.{Ghosts}
use Rattle.sqlite_store.specs.declared.store.FileStore.{FileStore}
use Rattle.vault_file.specs.declared.fault.NotOpened.{NotOpened as FileFault}
use Rattle.vault_engine.specs.Passing.{Passage}
use Rattle.vault_jobs.specs.Outside.{Outside}
use Rattle.vault_verdict.specs.declared.sizes.Sizes.{Sizes}
use Rattle.vault_words.specs.declared.jobs.Job.{Job}
use Rattle.vault_words.specs.declared.jobs.Job.TheVariants.{Trial, Merchant, Merchants, Grant, Withdraw}
use Rattle.vault_words.specs.declared.jobs.Job.TheVariants.{Rights, Pipe, Batch, Serve, Sweep}
use Rattle.vault_words.specs.declared.jobs.Job.TheVariants.{List as Listing}
use Rattle.vault_words.specs.declared.jobs.Job.TheVariants.{Check, Migrate}
use Rattle.vault_jobs.specs.Doing.{Works}
use Rattle.vault_jobs.specs.Doing.{Does as Performs}
use Rattle.vault_jobs.specs.Streams.{Output, Streams, output_with, seen_as}
use Rattle.vault_jobs.specs.declared.task.Outcome.TheVariants as outcome
use Rattle.vault_jobs.specs.declared.show.Shown.TheVariants as show
use Rattle.vault_jobs.specs.declared.task.Task.{Task}
use Rattle.vault_jobs.specs.declared.trial.Trial.{Trial as Asked}
use Rattle.vault_jobs.specs.declared.clock.Giver.TheVariants.{Words, Clock}
use Rattle.vault_jobs.specs.declared.task.Task.TheVariants as task
use Rattle.vault_app.specs.Asked.{AsksFor, IsBatch, Unasked}
use Rattle.vault_app.specs.Ending.{Said, Says, status_of}
use Rattle.vault_app.specs.Files.{EndsOnFile}
use Rattle.vault_app.specs.Jobs.{Does, DoesPlan}
use Rattle.vault_app.specs.Commands.Check.{TellsSizes}
use Rattle.vault_app.specs.Commands.Migrate.{TellsMoved}
use Rattle.vault_app.specs.Commands.Trial.{TrialEnds}
use Rattle.vault_app.specs.Endings.{NotedLineEnds}
use Rattle.vault_app.specs.Plans.{IsPlanOf, IsTaskOf}
use Rattle.vault_app.specs.World.{World, outside_in}
use Rattle.vault_app.specs.declared.ending.Ending.{Ending}
use Rattle.vault_app.specs.declared.ending.Ending.TheVariants.{Done, Noted, Version, Refused, Misnamed}
use Rattle.vault_app.specs.declared.ending.Ending.TheVariants.{Unfinished, SomeRefused, BadWords, NotOpened, Stopped}
use Rattle.vault_app.specs.declared.note.Note.{Note}
use Rattle.vault_app.specs.declared.plan.Plan.{Plan}
use Rattle.vault_app.specs.declared.plan.Plan.TheVariants as plan

-- without a job nothing is read
pub unasked : (words : List Text) (ending : Ending) (unread unsent : Type 0) → unread
    → Unasked words ending (Unit {0}) unsent → Unasked words ending unread unsent
unasked words ending unread unsent calm (inl (how, _)) = inl (how, calm)
unasked words ending unread unsent calm (inr (inl (none, is, _, silent))) = inr (inl (none, is, calm, silent))
unasked words ending unread unsent calm (inr (inr (is, _, silent))) = inr (inr (is, calm, silent))

-- at these statuses nothing more goes out
pub said_at : (why : List ℕ) (ending : Ending) (output errors : Said)
    → (status_of ending ≡ 2) ⊎ (status_of ending ≡ 3) → Says why ending output errors → output.nothing
said_at why BadWords o e at said = said.0
said_at why (NotOpened f) o e at said = said.0
said_at why Done o e at said = said.0
said_at why (Noted it) o e at said = said.0
said_at why SomeRefused o e at said = said.0
said_at why (Stopped stop) o e at said = said.0
said_at why Version o e (inl at) said = absurd (omega (arith, at))
said_at why Version o e (inr at) said = absurd (omega (arith, at))
said_at why (Refused n) o e (inl at) said = absurd (omega (arith, at))
said_at why (Refused n) o e (inr at) said = absurd (omega (arith, at))
said_at why (Misnamed it) o e (inl at) said = absurd (omega (arith, at))
said_at why (Misnamed it) o e (inr at) said = absurd (omega (arith, at))
said_at why (Unfinished it) o e (inl at) said = absurd (omega (arith, at))
said_at why (Unfinished it) o e (inr at) said = absurd (omega (arith, at))

-- the end of a job that wrote a line, with what is noted beside it
abbrev IsOfLine : Ending → Type 0
IsOfLine Done = Unit {0}
IsOfLine (Noted it) = Unit {0}
IsOfLine (Stopped why) = Unit {0}
IsOfLine ending = ⊥

-- a check ends so, and a move
of_line : (text : List ℕ) (noted : Bool) (of : Note) (ending : Ending) (out : Output)
    → NotedLineEnds text noted of ending out → IsOfLine ending
of_line text true of ending out (Done, ends, is) = subst IsOfLine (sym is) tt
of_line text false of ending out (Done, ends, is) = subst IsOfLine (sym is) tt
of_line text true of ending out (Stopped why, ends, is) = subst IsOfLine (sym is) tt
of_line text false of ending out (Stopped why, ends, is) = subst IsOfLine (sym is) tt
of_line text noted of ending out (line, ends, is) = absurd ends

-- without a plan only
abbrev pub IsPlanless : Ending → Type 0
IsPlanless BadWords = Unit {0}
IsPlanless (Misnamed it) = Unit {0}
IsPlanless (Unfinished it) = Unit {0}
IsPlanless ending = ⊥

no_line : (ending : Ending) → IsPlanless ending → ¬ (IsOfLine ending)
no_line BadWords is line = line
no_line (Misnamed it) is line = line
no_line (Unfinished it) is line = line
no_line ending is line = absurd is

-- the task answers rows
abbrev IsOfRows : Task → Type 0
IsOfRows (task.Batch who now digits) = Unit {0}
IsOfRows t = ⊥

-- the words ask for such a task only by a batch
batch_of : (world : World) (job : Job) (t : Task) → IsTaskOf world job t → IsOfRows t → IsBatch job
batch_of world (Merchant j) t (name, (now, moment, same)) rows = absurd (subst IsOfRows same rows)
batch_of world (Merchants j) t (given, now, listed, moment, same) rows =
    absurd (no_rows j.dry_run given now (subst IsOfRows same rows))
  where
    no_rows : (dry_run : Bool) (given : Vec Wanted) (now : ℕ) → ¬ (IsOfRows
        (if dry_run then task.Show (show.Settings given now) else task.SetMerchants given now))
    no_rows true given now h = h
    no_rows false given now h = h
batch_of world (Grant j) t (names, (right, now, word, moment, same)) rows = absurd (subst IsOfRows same rows)
batch_of world (Withdraw j) t (names, (right, now, word, moment, same)) rows =
    absurd (subst IsOfRows same rows)
batch_of world (Rights j) t (given, now, listed, moment, same) rows =
    absurd (no_rows j.dry_run j.exact given now (subst IsOfRows same rows))
  where
    no_rows : (dry_run exact : Bool) (given : Vec Row) (now : ℕ) → ¬ (IsOfRows
        (if dry_run then task.Show (show.Changes exact given now)
        else if exact then task.Settle given now
        else task.Give given now))
    no_rows true exact given now h = h
    no_rows false true given now h = h
    no_rows false false given now h = h
batch_of world (Pipe j) t same rows = absurd (subst IsOfRows same rows)
batch_of world (Batch j) t is rows = (j, refl)
batch_of world (Serve j) t (lists, merchants, rights, same) rows = absurd (subst IsOfRows same rows)
batch_of world (Listing j) t same rows = absurd (subst IsOfRows same rows)
batch_of world (Sweep j) t (names, (who, now, caller, merchant, moment, same)) rows =
    absurd (subst IsOfRows same rows)
batch_of world job t is rows = absurd is

module _ (at : Outside) (unread unsent : Type 0) (s : Streams) where
  rows_of : (t : Task) (w : Passage)
      → Works at t w (Ok outcome.SomeRefused) (seen_as unread unsent s) → IsOfRows t
  rows_of (task.Change c) w (inl h) = h
  rows_of (task.Change c) w (inr (f, is, silent, h, some)) = absurd (cc is)
  rows_of (task.Give rows now) w h = h
  rows_of (task.Settle rows now) w (inl (changes, of, h)) = h
  rows_of (task.Settle rows now) w (inr (f, is, silent, h)) = absurd (cc is)
  rows_of (task.SetMerchants rows now) w (inl (cs, of, h)) = h
  rows_of (task.SetMerchants rows now) w (inr (f, is, silent, h)) = absurd (cc is)
  rows_of (task.Sweep who now Words) w h = h
  rows_of (task.Sweep who now Clock) w (inl (near, h)) = h
  rows_of (task.Sweep who now Clock) w (inr (inl (is, silent, same, far))) = absurd (cc is)
  rows_of (task.Sweep who now Clock) w (inr (inr (f, is, silent, h))) = absurd (cc is)
  rows_of (task.Batch who now digits) w h = tt
  rows_of (task.Pipe now digits) w h = h
  rows_of (task.Serve it) w (inl (some, none, h)) = h
  rows_of (task.Serve it) w (inr h) = h.1
  rows_of (task.Show it) w h = h

  unread_by : (t : Task) (w : Passage) (n : ℕ)
      → Performs at t w (Ok (outcome.Refused n)) None (seen_as unread unsent s) → unread
  unread_by (task.Batch who now digits) w n d = absurd d.works
  unread_by (task.Pipe now digits) w n d = absurd d.works
  unread_by t w n d = d.begun

module _ {D : Type 0} {g : Ghosts D} (world : World) (left : Option (FileStore D g))
    (unread unsent : Type 0) (s : Streams) where
  -- a plan doesn't end with bad words, or with a word that is no name or no right
  sizes_without : (e : Ending) → IsPlanless e → (log : Bool) (told : Result Sizes FileFault)
      → ¬ (TellsSizes log told e (output_with unsent s.sent_old s.sent_new s.writer))
  sizes_without e is log (Ok sizes) h = no_line e is (of_line _ log _ e
      (output_with unsent s.sent_old s.sent_new s.writer) h)
  sizes_without e is log (Err why) h = subst IsPlanless h.0 is

  moved_without : (e : Ending) → IsPlanless e → (was_empty : Bool) (told : Result ℤ FileFault)
      → ¬ (TellsMoved was_empty told e (output_with unsent s.sent_old s.sent_new s.writer))
  moved_without e is was_empty (Ok version) h = no_line e is (of_line _ was_empty _ e
      (output_with unsent s.sent_old s.sent_new s.writer) h)
  moved_without e is was_empty (Err why) h = subst IsPlanless h.0 is

  file_without : (e : Ending) → IsPlanless e → (path : List ℕ) (left : Option (FileStore D g)) (t : Task)
      → ¬ (EndsOnFile world path left t e (seen_as unread unsent s))
  file_without BadWords is path (Some it) t h = h
  file_without (Misnamed placeholder) is path (Some it) t h = h
  file_without (Unfinished about) is path (Some it) t h = h
  file_without e is path (Some it) t h = absurd is
  file_without e is path None t h = subst IsPlanless h.1 is

  trial_without : (e : Ending) → IsPlanless e → (t : Asked) → ¬ (TrialEnds world.tells t e s)
  trial_without BadWords is t h = h
  trial_without (Misnamed placeholder) is t h = h
  trial_without (Unfinished about) is t h = h
  trial_without e is t h = absurd is

  pub plan_without : (e : Ending) → IsPlanless e → (p : Plan)
      → ¬ (DoesPlan world left p e (seen_as unread unsent s))
  plan_without e is (plan.Trial t) h = trial_without e is t h.1
  plan_without e is (plan.Check path) h = sizes_without e is h.1.2.0 h.1.0 h.1.2.2
  plan_without e is (plan.Migrate path) h = moved_without e is h.1.2.0 h.1.0 h.1.2.2
  plan_without e is (plan.Do path t) h = file_without e is path.now left t h

  -- where its file isn't opened it reads and writes nothing
  sizes_closed : (log : Bool) (told : Result Sizes FileFault) (f : FileFault)
      → TellsSizes log told (NotOpened f) (output_with unsent s.sent_old s.sent_new s.writer) → unsent
  sizes_closed log (Ok sizes) f h = absurd (of_line _ log _ (NotOpened f)
      (output_with unsent s.sent_old s.sent_new s.writer) h)
  sizes_closed log (Err why) f h = h.1

  moved_closed : (was_empty : Bool) (told : Result ℤ FileFault) (f : FileFault)
      → TellsMoved was_empty told (NotOpened f) (output_with unsent s.sent_old s.sent_new s.writer) → unsent
  moved_closed was_empty (Ok version) f h = absurd (of_line _ was_empty _ (NotOpened f)
      (output_with unsent s.sent_old s.sent_new s.writer) h)
  moved_closed was_empty (Err why) f h = h.1

  file_closed : (path : List ℕ) (left : Option (FileStore D g)) (t : Task) (f : FileFault)
      → EndsOnFile world path left t (NotOpened f) (seen_as unread unsent s) → unread × unsent
  file_closed path (Some it) t f h = (h.1, h.2)
  file_closed path None t f h = (h.3, h.4)

  plan_closed : (p : Plan) (f : FileFault) → DoesPlan world left p (NotOpened f) (seen_as unread unsent s)
      → unread × unsent
  plan_closed (plan.Trial t) f h = absurd h.1
  plan_closed (plan.Check path) f h = (h.0, sizes_closed h.1.2.0 h.1.0 f h.1.2.2)
  plan_closed (plan.Migrate path) f h = (h.0, moved_closed h.1.2.0 h.1.0 f h.1.2.2)
  plan_closed (plan.Do path t) f h = file_closed path.now left t f h

  -- where the vault refuses it reads nothing
  file_refused : (path : List ℕ) (left : Option (FileStore D g)) (t : Task) (n : ℕ)
      → EndsOnFile world path left t (Refused n) (seen_as unread unsent s) → unread
  file_refused path (Some it) t n h = unread_by (outside_in world) unread unsent s t _ n h.done
  file_refused path None t n h = h.3

  plan_refused : (p : Plan) (n : ℕ) → DoesPlan world left p (Refused n) (seen_as unread unsent s) → unread
  plan_refused (plan.Trial t) n h = absurd h.1
  plan_refused (plan.Check path) n h = h.0
  plan_refused (plan.Migrate path) n h = h.0
  plan_refused (plan.Do path t) n h = file_refused path.now left t n h

  -- only a batch is refused in part
  sizes_part : (log : Bool) (told : Result Sizes FileFault)
      → ¬ (TellsSizes log told SomeRefused (output_with unsent s.sent_old s.sent_new s.writer))
  sizes_part log (Ok sizes) h = of_line _ log _ SomeRefused
      (output_with unsent s.sent_old s.sent_new s.writer) h
  sizes_part log (Err why) h = let is = h.0 in absurd (cc (is))

  moved_part : (was_empty : Bool) (told : Result ℤ FileFault)
      → ¬ (TellsMoved was_empty told SomeRefused (output_with unsent s.sent_old s.sent_new s.writer))
  moved_part was_empty (Ok version) h = of_line _ was_empty _ SomeRefused
      (output_with unsent s.sent_old s.sent_new s.writer) h
  moved_part was_empty (Err why) h = let is = h.0 in absurd (cc (is))

  file_part : (path : List ℕ) (left : Option (FileStore D g)) (t : Task)
      → EndsOnFile world path left t SomeRefused (seen_as unread unsent s) → IsOfRows t
  file_part path (Some it) t h = rows_of (outside_in world) unread unsent s t _ h.done.works
  file_part path None t h = let is = h.1 in absurd (cc (is))

  -- a plan that may be refused in part is a task of rows
  abbrev IsPart : Plan → Type 0
  IsPart (plan.Trial t) = ⊥
  IsPart (plan.Check path) = ⊥
  IsPart (plan.Migrate path) = ⊥
  IsPart (plan.Do path t) = IsOfRows t

  plan_part : (p : Plan) → DoesPlan world left p SomeRefused (seen_as unread unsent s) → IsPart p
  plan_part (plan.Trial t) h = absurd h.1
  plan_part (plan.Check path) h = absurd (sizes_part h.1.2.0 h.1.0 h.1.2.2)
  plan_part (plan.Migrate path) h = absurd (moved_part h.1.2.0 h.1.0 h.1.2.2)
  plan_part (plan.Do path t) h = file_part path.now left t h

  batch_in : (job : Job) (p : Plan) → IsPlanOf world job p → IsPart p → IsBatch job
  batch_in (Trial j) p (t, is, same) h = absurd (subst IsPart same h)
  batch_in (Check j) p same h = absurd (subst IsPart same h)
  batch_in (Migrate j) p same h = absurd (subst IsPart same h)
  batch_in job p (t, is, same) h = batch_of world job t is (subst IsPart same h)

  -- with a status of 2 or 3 nothing was read, and nothing written by a job
  pub calm_at : (words : List Text) (ending : Ending) → (status_of ending ≡ 2) ⊎ (status_of ending ≡ 3)
      → Does world left words ending (seen_as unread unsent s) → unread × unsent
  calm_at words BadWords at (inl (job, asked, inl (p, is, proper, h))) = absurd (plan_without BadWords tt p h)
  calm_at words BadWords at (inl (job, asked, inr (never, none, calm, silent))) = absurd never
  calm_at words BadWords at (inr (none, inl (inl (help, is), calm))) = absurd (cc (is))
  calm_at words BadWords at (inr (none, inl (inr (version, is, silent), calm))) = absurd (cc (is))
  calm_at words BadWords at (inr (none, inr (inl (unknown, is, calm, silent)))) = (calm, silent)
  calm_at words BadWords at (inr (none, inr (inr (is, calm, silent)))) = absurd (cc (is))
  calm_at words (NotOpened f) at (inl (job, asked, inl (p, is, proper, h))) = plan_closed p f h
  calm_at words (NotOpened f) at (inl (job, asked, inr (never, none, calm, silent))) = absurd never
  calm_at words (NotOpened f) at (inr (none, inl (inl (help, is), calm))) = absurd (cc (is))
  calm_at words (NotOpened f) at (inr (none, inl (inr (version, is, silent), calm))) = absurd (cc (is))
  calm_at words (NotOpened f) at (inr (none, inr (inl (unknown, is, calm, silent)))) = absurd (cc (is))
  calm_at words (NotOpened f) at (inr (none, inr (inr (is, calm, silent)))) = absurd (cc (is))
  calm_at words Done (inl at) h = absurd (omega (arith, at))
  calm_at words Done (inr at) h = absurd (omega (arith, at))
  calm_at words (Noted it) (inl at) h = absurd (omega (arith, at))
  calm_at words (Noted it) (inr at) h = absurd (omega (arith, at))
  calm_at words Version (inl at) h = absurd (omega (arith, at))
  calm_at words Version (inr at) h = absurd (omega (arith, at))
  calm_at words (Refused n) (inl at) h = absurd (omega (arith, at))
  calm_at words (Refused n) (inr at) h = absurd (omega (arith, at))
  calm_at words (Misnamed it) (inl at) h = absurd (omega (arith, at))
  calm_at words (Misnamed it) (inr at) h = absurd (omega (arith, at))
  calm_at words (Unfinished it) (inl at) h = absurd (omega (arith, at))
  calm_at words (Unfinished it) (inr at) h = absurd (omega (arith, at))
  calm_at words SomeRefused (inl at) h = absurd (omega (arith, at))
  calm_at words SomeRefused (inr at) h = absurd (omega (arith, at))
  calm_at words (Stopped why) (inl at) h = absurd (omega (arith, at))
  calm_at words (Stopped why) (inr at) h = absurd (omega (arith, at))

  -- with 1 nothing was read, or the words ask for a batch
  pub refused_at : (words : List Text) (ending : Ending) → status_of ending ≡ 1
      → Does world left words ending (seen_as unread unsent s) → unread ⊎ AsksFor words IsBatch
  refused_at words (Refused n) at (inl (job, asked, inl (p, is, proper, h))) = inl (plan_refused p n h)
  refused_at words (Refused n) at (inl (job, asked, inr (before, none, calm, silent))) = inl calm
  refused_at words (Refused n) at (inr (none, inl (inl (help, is), calm))) = inl calm
  refused_at words (Refused n) at (inr (none, inl (inr (version, is, silent), calm))) = inl calm
  refused_at words (Refused n) at (inr (none, inr (inl (unknown, is, calm, silent)))) = inl calm
  refused_at words (Refused n) at (inr (none, inr (inr (is, calm, silent)))) = inl calm
  refused_at words (Misnamed it) at (inl (job, asked, inl (p, is, proper, h))) =
      absurd (plan_without (Misnamed it) tt p h)
  refused_at words (Misnamed it) at (inl (job, asked, inr (before, none, calm, silent))) = inl calm
  refused_at words (Misnamed it) at (inr (none, inl (inl (help, is), calm))) = inl calm
  refused_at words (Misnamed it) at (inr (none, inl (inr (version, is, silent), calm))) = inl calm
  refused_at words (Misnamed it) at (inr (none, inr (inl (unknown, is, calm, silent)))) = inl calm
  refused_at words (Misnamed it) at (inr (none, inr (inr (is, calm, silent)))) = inl calm
  refused_at words (Unfinished it) at (inl (job, asked, inl (p, is, proper, h))) =
      absurd (plan_without (Unfinished it) tt p h)
  refused_at words (Unfinished it) at (inl (job, asked, inr (before, none, calm, silent))) = inl calm
  refused_at words (Unfinished it) at (inr (none, inl (inl (help, is), calm))) = inl calm
  refused_at words (Unfinished it) at (inr (none, inl (inr (version, is, silent), calm))) = inl calm
  refused_at words (Unfinished it) at (inr (none, inr (inl (unknown, is, calm, silent)))) = inl calm
  refused_at words (Unfinished it) at (inr (none, inr (inr (is, calm, silent)))) = inl calm
  refused_at words SomeRefused at (inl (job, asked, inl (p, is, proper, h))) =
      inr (job, asked, batch_in job p is (plan_part p h))
  refused_at words SomeRefused at (inl (job, asked, inr (never, none, calm, silent))) = absurd never
  refused_at words SomeRefused at (inr (none, inl (inl (help, is), calm))) = inl calm
  refused_at words SomeRefused at (inr (none, inl (inr (version, is, silent), calm))) = inl calm
  refused_at words SomeRefused at (inr (none, inr (inl (unknown, is, calm, silent)))) = inl calm
  refused_at words SomeRefused at (inr (none, inr (inr (is, calm, silent)))) = inl calm
  refused_at words Done at h = absurd (omega (arith, at))
  refused_at words (Noted it) at h = absurd (omega (arith, at))
  refused_at words Version at h = absurd (omega (arith, at))
  refused_at words BadWords at h = absurd (omega (arith, at))
  refused_at words (NotOpened f) at h = absurd (omega (arith, at))
  refused_at words (Stopped why) at h = absurd (omega (arith, at))
