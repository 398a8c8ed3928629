-- What a run says on the errors that is done or refused: what may be noted of the job that its words ask for,
-- or which of their words is none.
use Rattle.std.proofs.Common.{◌≡◌, ◌⊎◌, inl, inr, ℕ, ℤ, List, Bool, true, false, Option, Some, None}
use Rattle.std.proofs.Common.{Result, Ok, Err, ap, arith, refl, subst}
use Rattle.std.specs.Global.{Vec}
use Rattle.std.specs.Prelude.{if◌then◌else◌}
use Rattle.clap.specs.Words.{Text}
use Rattle.sqlite_disk.specs.declared.Disk.{Ghosts}
use Rattle.sqlite_store.specs.declared.store.FileStore.{FileStore}
use Rattle.vault_merchants.specs.ListedMerchants.{Wanted}
use Rattle.vault_rights.specs.Named.{Row}
use Rattle.vault_file.specs.declared.fault.NotOpened.{NotOpened as FileFault}
use Rattle.vault_verdict.specs.declared.sizes.Sizes.{Sizes}
use Rattle.vault_words.specs.declared.jobs.Job.{Job}
use Rattle.vault_words.specs.declared.jobs.Job.TheVariants.{Trial, Merchant, Merchants, Grant, Withdraw}
use Rattle.vault_words.specs.declared.jobs.Job.TheVariants.{Rights, Pipe, Batch, Serve, Sweep}
use Rattle.vault_words.specs.declared.jobs.Job.TheVariants.{List as Listing}
use Rattle.vault_words.specs.declared.jobs.Job.TheVariants.{Check, Migrate}
use Rattle.vault_jobs.specs.Moments.{giver_of}
use Rattle.vault_jobs.specs.Notes.{MayNote as MayNoteTask}
use Rattle.vault_jobs.specs.Streams.{Output, Streams, output_with, seen_as}
use Rattle.vault_jobs.specs.declared.clock.Giver.TheVariants.{Clock}
use Rattle.vault_jobs.specs.declared.note.Note.{Note as TaskNote}
use Rattle.vault_jobs.specs.declared.show.Shown.TheVariants as show
use Rattle.vault_jobs.specs.declared.task.Task.{Task}
use Rattle.vault_live.specs.declared.subject.Subject.{Subject}
use Rattle.vault_jobs.specs.declared.task.Task.TheVariants as task
use Rattle.vault_app.specs.Asked.{AsksFor}
use Rattle.vault_app.specs.Ending.{Said, Says, note_line, status_of}
use Rattle.vault_app.specs.Endings.{NotedLineEnds}
use Rattle.vault_app.specs.Files.{EndsOnFile}
use Rattle.vault_app.specs.Jobs.{Does, DoesPlan}
use Rattle.vault_app.specs.Commands.Check.{TellsSizes}
use Rattle.vault_app.specs.Commands.Migrate.{TellsMoved}
use Rattle.vault_app.specs.Notes.{MayNote, OfTask}
use Rattle.vault_app.specs.Plans.{IsMisnamed, IsPlanOf, IsTaskOf, IsUnfinished, SaysWhy}
use Rattle.vault_app.specs.World.{World}
use Rattle.vault_app.specs.declared.ending.Ending.{Ending}
use Rattle.vault_app.specs.declared.ending.Ending.TheVariants.{Done, Noted, Version, Refused, Misnamed}
use Rattle.vault_app.specs.declared.ending.Ending.TheVariants.{Unfinished, SomeRefused, BadWords, NotOpened, Stopped}
use Rattle.vault_app.specs.declared.note.Note.{Note}
use Rattle.vault_app.specs.declared.note.Note.TheVariants as note
use Rattle.vault_app.specs.declared.placeholder.Placeholder.{Placeholder}
use Rattle.vault_app.specs.declared.plan.Plan.{Plan}
use Rattle.vault_app.specs.declared.plan.Plan.TheVariants as plan
use Rattle.vault_app.proofs.Unread.{plan_without}

-- a plan may have this note
abbrev PlanNotes : Note → Plan → Type 0
PlanNotes it (plan.Trial t) = ⊥
PlanNotes it (plan.Check path) = it ≡ note.Log
PlanNotes it (plan.Migrate path) = it ≡ note.Made
PlanNotes it (plan.Do path t) = OfTask it (MayNoteTask t)

-- what is noted beside a line
line_notes : (text : List ℕ) (noted : Bool) (of it : Note) (out : Output)
    → NotedLineEnds text noted of (Noted it) out → it ≡ of
line_notes text true of it out (Done, ends, is) = cc
line_notes text false of it out (Done, ends, is) = absurd (cc (is))
line_notes text true of it out (Stopped why, ends, is) = absurd (cc (is))
line_notes text false of it out (Stopped why, ends, is) = absurd (cc (is))
line_notes text noted of it out (line, ends, is) = absurd ends

-- the clock gives the moment only where none is fixed
none_fixed : (now : Option ℕ) → giver_of now ≡ Clock → now ≡ None
none_fixed None is = refl
none_fixed (Some now) is = absurd (cc (is))

-- a task of merchants or of rights has no note
no_setting : (dry_run : Bool) (given : Vec Wanted) (now : ℕ) (of : TaskNote) → ¬ (MayNoteTask
    (if dry_run then task.Show (show.Settings given now) else task.SetMerchants given now) of)
no_setting true given now of h = h
no_setting false given now of h = h

no_rights : (dry_run exact : Bool) (given : Vec Row) (now : ℕ) (of : TaskNote) → ¬ (MayNoteTask
    (if dry_run then task.Show (show.Changes exact given now)
    else if exact then task.Settle given now
    else task.Give given now) of)
no_rights true exact given now of h = h
no_rights false true given now of h = h
no_rights false false given now of h = h

module _ (world : World) (of : TaskNote) where
  -- the notes of a task are those of its job
  task_notes : (job : Job) (t : Task) → IsTaskOf world job t → MayNoteTask t of → MayNote (note.Task of) job
  task_notes (Merchant j) t (name, (now, moment, same)) h =
      let it = subst (λ x. MayNoteTask x of) same h in
      let never : false ≡ true = it.0 in absurd (cc (never))
  task_notes (Merchants j) t (given, now, listed, moment, same) h =
      absurd (no_setting j.dry_run given now of (subst (λ x. MayNoteTask x of) same h))
  task_notes (Grant j) t (names, (right, now, word, moment, same)) h =
      let it = subst (λ x. MayNoteTask x of) same h in
      let never : false ≡ true = it.0 in absurd (cc (never))
  task_notes (Withdraw j) t (names, (right, now, word, moment, same)) h =
      ap note.Task (subst (λ x. MayNoteTask x of) same h).1
  task_notes (Rights j) t (given, now, listed, moment, same) h =
      absurd (no_rights j.dry_run j.exact given now of (subst (λ x. MayNoteTask x of) same h))
  task_notes (Pipe j) t same h = absurd (subst (λ x. MayNoteTask x of) same h)
  task_notes (Batch j) t (names, (who, caller, merchant, same)) h =
      absurd (subst (λ x. MayNoteTask x of) same h)
  task_notes (Serve j) t (lists, merchants, rights, same) h = absurd (subst (λ x. MayNoteTask x of) same h)
  task_notes (Listing j) t same h = absurd (subst (λ x. MayNoteTask x of) same h)
  task_notes (Sweep j) t (names, (who, now, caller, merchant, moment, same)) h =
      elim (subst (λ x. MayNoteTask x of) same h) [
        | inl none ↦ inl (ap note.Task none)
        | inr ahead ↦ inr (ap note.Task ahead.1, none_fixed j.now ahead.0)
      ]
  task_notes job t is h = absurd is

-- and so are those of a plan
job_notes : (world : World) (it : Note) (job : Job) (p : Plan) → IsPlanOf world job p → PlanNotes it p
    → MayNote it job
job_notes world it (Trial j) p (t, is, same) h = absurd (subst (PlanNotes it) same h)
job_notes world it (Check j) p same h = subst (PlanNotes it) same h
job_notes world it (Migrate j) p same h = subst (PlanNotes it) same h
job_notes world note.Log job p (t, is, same) h = absurd (subst (PlanNotes note.Log) same h)
job_notes world note.Made job p (t, is, same) h = absurd (subst (PlanNotes note.Made) same h)
job_notes world (note.Task of) job p (t, is, same) h =
    task_notes world of job t is (subst (PlanNotes (note.Task of)) same h)

module _ {D : Type 0} {g : Ghosts D} (world : World) (left : Option (FileStore D g))
    (unread unsent : Type 0) (s : Streams) where
  sizes_notes : (it : Note) (log : Bool) (told : Result Sizes FileFault)
      → TellsSizes log told (Noted it) (output_with unsent s.sent_old s.sent_new s.writer) → it ≡ note.Log
  sizes_notes it log (Ok sizes) h = line_notes _ log note.Log it
      (output_with unsent s.sent_old s.sent_new s.writer) h
  sizes_notes it log (Err why) h = let is = h.0 in absurd (cc (is))

  moved_notes : (it : Note) (was_empty : Bool) (told : Result ℤ FileFault)
      → TellsMoved was_empty told (Noted it) (output_with unsent s.sent_old s.sent_new s.writer) → it ≡
      note.Made
  moved_notes it was_empty (Ok version) h = line_notes _ was_empty note.Made it
      (output_with unsent s.sent_old s.sent_new s.writer) h
  moved_notes it was_empty (Err why) h = let is = h.0 in absurd (cc (is))

  file_notes : (it : Note) (path : List ℕ) (left : Option (FileStore D g)) (t : Task)
      → EndsOnFile world path left t (Noted it) (seen_as unread unsent s) → OfTask it (MayNoteTask t)
  file_notes note.Log path (Some left) t h = absurd h
  file_notes note.Made path (Some left) t h = absurd h
  file_notes (note.Task of) path (Some left) t h = h.done.noted.fits.0
  file_notes it path None t h = let is = h.1 in absurd (cc (is))

  plan_notes : (it : Note) (p : Plan) → DoesPlan world left p (Noted it) (seen_as unread unsent s) → PlanNotes
      it p
  plan_notes it (plan.Trial t) h = absurd h.1
  plan_notes it (plan.Check path) h = sizes_notes it h.1.2.0 h.1.0 h.1.2.2
  plan_notes it (plan.Migrate path) h = moved_notes it h.1.2.0 h.1.0 h.1.2.2
  plan_notes it (plan.Do path t) h = file_notes it path.now left t h

  note_of : (it : Note) (words : List Text) → Does world left words (Noted it) (seen_as unread unsent s)
      → AsksFor words (MayNote it)
  note_of it words (inl (job, asked, inl (p, is, proper, h))) =
      (job, asked, job_notes world it job p is (plan_notes it p h))
  note_of it words (inl (job, asked, inr (never, none, calm, silent))) = absurd never
  note_of it words (inr (none, inl (inl (help, is), calm))) = absurd (cc (is))
  note_of it words (inr (none, inl (inr (version, is, silent), calm))) = absurd (cc (is))
  note_of it words (inr (none, inr (inl (unknown, is, calm, silent)))) = absurd (cc (is))
  note_of it words (inr (none, inr (inr (is, calm, silent)))) = absurd (cc (is))

  misnamed_of : (it : Placeholder) (words : List Text) → Does world left words (Misnamed it)
      (seen_as unread unsent s)
      → AsksFor words (IsMisnamed it)
  misnamed_of it words (inl (job, asked, inl (p, is, proper, h))) =
      absurd (plan_without world left unread unsent s (Misnamed it) tt p h)
  misnamed_of it words (inl (job, asked, inr (before, none, calm, silent))) = (job, asked, before)
  misnamed_of it words (inr (none, inl (inl (help, is), calm))) = absurd (cc (is))
  misnamed_of it words (inr (none, inl (inr (version, is, silent), calm))) = absurd (cc (is))
  misnamed_of it words (inr (none, inr (inl (unknown, is, calm, silent)))) = absurd (cc (is))
  misnamed_of it words (inr (none, inr (inr (is, calm, silent)))) = absurd (cc (is))

  unfinished_of : (it : Subject) (words : List Text) → Does world left words (Unfinished it)
      (seen_as unread unsent s)
      → AsksFor words (IsUnfinished world it)
  unfinished_of it words (inl (job, asked, inl (p, is, proper, h))) =
      absurd (plan_without world left unread unsent s (Unfinished it) tt p h)
  unfinished_of it words (inl (job, asked, inr (before, none, calm, silent))) = (job, asked, before)
  unfinished_of it words (inr (none, inl (inl (help, is), calm))) = absurd (cc (is))
  unfinished_of it words (inr (none, inl (inr (version, is, silent), calm))) = absurd (cc (is))
  unfinished_of it words (inr (none, inr (inl (unknown, is, calm, silent)))) = absurd (cc (is))
  unfinished_of it words (inr (none, inr (inr (is, calm, silent)))) = absurd (cc (is))

  -- with a status of 0 nothing is said on the errors, or a note that the job may have
  pub noted_at : (words : List Text) (ending : Ending) (why : List ℕ) (output errors : Said)
      → status_of ending ≡ 0
      → Does world left words ending (seen_as unread unsent s)
      → Says why ending output errors
      → errors.nothing ⊎ (it : Note) × AsksFor words (MayNote it) × errors.bytes (note_line it)
  noted_at words Done why o e at h said = inl said.1
  noted_at words (Noted it) why o e at h said = inr (it, note_of it words h, said.1)
  noted_at words Version why o e at h said = inl said.1
  noted_at words (Refused n) why o e at h said = inl said.1
  noted_at words (Misnamed it) why o e at h said = absurd (omega (arith, at))
  noted_at words (Unfinished it) why o e at h said = absurd (omega (arith, at))
  noted_at words SomeRefused why o e at h said = inl said.1
  noted_at words BadWords why o e at h said = absurd (omega (arith, at))
  noted_at words (NotOpened f) why o e at h said = absurd (omega (arith, at))
  noted_at words (Stopped stop) why o e at h said = absurd (omega (arith, at))

  -- and with 1 nothing is, or which of the job's words is none, or which of its lists isn't whole
  pub misnamed_at : (words : List Text) (ending : Ending) (why : List ℕ) (output errors : Said)
      → status_of ending ≡ 1
      → Does world left words ending (seen_as unread unsent s)
      → Says why ending output errors
      → SaysWhy world words errors
  misnamed_at words Done why o e at h said = inl (inl said.1)
  misnamed_at words (Noted it) why o e at h said = absurd (omega (arith, at))
  misnamed_at words Version why o e at h said = inl (inl said.1)
  misnamed_at words (Refused n) why o e at h said = inl (inl said.1)
  misnamed_at words (Misnamed it) why o e at h said = inl (inr (it, misnamed_of it words h, said.1))
  misnamed_at words (Unfinished it) why o e at h said = inr (inr (it, unfinished_of it words h, said.1))
  misnamed_at words SomeRefused why o e at h said = inl (inl said.1)
  misnamed_at words BadWords why o e at h said = absurd (omega (arith, at))
  misnamed_at words (NotOpened f) why o e at h said = absurd (omega (arith, at))
  misnamed_at words (Stopped stop) why o e at h said = absurd (omega (arith, at))
