-- What a job says beside its words: one record a job.
use Rattle.std.specs.Prelude.{◌≡◌, ℕ, List, Option, Some, None}
use Rattle.std.specs.Borrow.{Bor}
use Rattle.vault_jobs.specs.declared.task.Task.{Task}
use Rattle.vault_jobs.specs.declared.trial.Trial.{Trial as Asked}
use Rattle.vault_live.specs.declared.subject.Subject.{Subject}
use Rattle.vault_app.specs.World.{World}
use Rattle.vault_app.specs.declared.placeholder.Placeholder.{Placeholder}
use Rattle.vault_app.specs.declared.plan.Plan.{Plan}
use Rattle.vault_app.specs.declared.plan.Plan.TheVariants as plan

-- What a job is for: a trial, of which this holds; or with the file at a path its whole check, its move to
-- the newest schema, or a task on its vault, of which this holds.
pub data Purpose : Type 1 where
  OfTrial : (World → Asked → Type 0) → Purpose
  OfCheck : Bor (List ℕ) → Purpose
  OfMove : Bor (List ℕ) → Purpose
  OfTask : Bor (List ℕ) → (World → Task → Type 0) → Purpose

-- the plan serves it
abbrev pub IsPlanFor : Purpose → World → Plan → Type 0
IsPlanFor (OfTrial Is) world p = (t : Asked) × Is world t × (p ≡ plan.Trial t)
IsPlanFor (OfCheck path) world p = p ≡ plan.Check path
IsPlanFor (OfMove path) world p = p ≡ plan.Migrate path
IsPlanFor (OfTask path Is) world p = (t : Task) × Is world t × (p ≡ plan.Do path t)

-- the task serves it
abbrev pub IsTaskFor : Purpose → World → Task → Type 0
IsTaskFor (OfTask path Is) world t = Is world t
IsTaskFor purpose world t = ⊥

-- it asks for nothing of the vault in a file: it is a trial, a check or a move to the newest schema
abbrev pub IsBeside : Purpose → Type 0
IsBeside (OfTask path Is) = ⊥
IsBeside purpose = Unit {0}

-- the path of the file that it works with, if it works with one
abbrev pub path_of : Purpose → Option (List ℕ)
path_of (OfTrial Is) = None
path_of (OfCheck path) = Some path.now
path_of (OfMove path) = Some path.now
path_of (OfTask path Is) = Some path.now

-- What is said of a job: that its lives are lives; which of its words is the first that is no name, or no
-- right; by which number it may be refused in a world before there is a plan, for the text of its list; which
-- of its lists isn't whole there; that it may be stopped for want of a moment; that it
-- has a list of this; and what it is for.
pub record Saying : Type 1 where
  pub lives : Type 0
  pub misnamed : Placeholder → Type 0
  pub refused : World → ℕ → Type 0
  pub unfinished : World → Subject → Type 0
  pub needs_moment : Type 0
  pub has_list : Subject → Type 0
  pub purpose : Purpose

-- a job for this that has no lives, is never refused early, and needs no moment and no list
abbrev pub quiet : Purpose → Saying
quiet purpose = record {
  lives = Unit {0};
  misnamed = λ placeholder. ⊥;
  refused = λ world n. ⊥;
  unfinished = λ world about. ⊥;
  needs_moment = ⊥;
  has_list = λ about. ⊥;
  purpose = purpose;
}
