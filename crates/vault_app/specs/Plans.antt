-- What a job comes to: a plan, or an ending before there is one.
use Rattle.std.specs.Prelude.{◌≡◌, ◌⊎◌, List, MatchResult, Result}
use Rattle.std.specs.declared.io.ErrorKind.{ErrorKind}
use Rattle.clap.specs.Words.{Text}
use Rattle.vault_core.specs.Scalar.{IsLife}
use Rattle.vault_engine.specs.declared.stop.Stop.TheVariants as service
use Rattle.vault_words.specs.declared.jobs.Job.{Job}
use Rattle.vault_words.specs.declared.jobs.Job.TheVariants.{Trial, Merchant, Merchants, Grant, Withdraw}
use Rattle.vault_words.specs.declared.jobs.Job.TheVariants.{Rights, Pipe, Batch, Serve, Sweep}
use Rattle.vault_words.specs.declared.jobs.Job.TheVariants.{List as Listing}
use Rattle.vault_words.specs.declared.jobs.Job.TheVariants.{Check, Migrate}
use Rattle.vault_jobs.specs.declared.stop.Stop.TheVariants as stop
use Rattle.vault_jobs.specs.declared.task.Task.{Task}
use Rattle.vault_live.specs.declared.subject.Subject.{Subject}
use Rattle.vault_app.specs.Asked.{AsksFor, Unasked}
use Rattle.vault_app.specs.Commands.Batch.{batch_says}
use Rattle.vault_app.specs.Commands.Check.{check_says}
use Rattle.vault_app.specs.Commands.Listing.{list_says}
use Rattle.vault_app.specs.Commands.Merchant.{merchant_says}
use Rattle.vault_app.specs.Commands.Merchants.{merchants_says}
use Rattle.vault_app.specs.Commands.Migrate.{migrate_says}
use Rattle.vault_app.specs.Commands.Pipe.{pipe_says}
use Rattle.vault_app.specs.Commands.Rights.{grant_says, withdraw_says}
use Rattle.vault_app.specs.Commands.RightsFile.{rights_says}
use Rattle.vault_app.specs.Commands.Serve.{serve_says}
use Rattle.vault_app.specs.Commands.Sweep.{sweep_says}
use Rattle.vault_app.specs.Commands.Trial.{trial_says}
use Rattle.vault_app.specs.Ending.{Said, SaysAtMost, placeholder_line, unfinished_line}
use Rattle.vault_app.specs.Endings.{EndsSo, no_ending}
use Rattle.vault_app.specs.Saying.{IsPlanFor, IsTaskFor, Saying}
use Rattle.vault_app.specs.TaskValues.{AreValues}
use Rattle.vault_app.specs.World.{World}
use Rattle.vault_app.specs.declared.ending.Ending.{Ending}
use Rattle.vault_app.specs.declared.placeholder.Placeholder.{Placeholder}
use Rattle.vault_app.specs.declared.plan.Plan.{Plan}
use Rattle.vault_app.specs.declared.plan.Plan.TheVariants as plan

-- what each job says
abbrev pub saying : Job → Saying
saying (Trial j) = trial_says j
saying (Merchant j) = merchant_says j
saying (Merchants j) = merchants_says j
saying (Grant j) = grant_says j
saying (Withdraw j) = withdraw_says j
saying (Rights j) = rights_says j
saying (Pipe j) = pipe_says j
saying (Batch j) = batch_says j
saying (Serve j) = serve_says j
saying (Sweep j) = sweep_says j
saying (Listing j) = list_says j
saying (Check j) = check_says j
saying (Migrate j) = migrate_says j

-- the word of a job at a placeholder is the first of its words that is no name, or no right
abbrev pub IsMisnamed : Placeholder → Job → Type 0
IsMisnamed placeholder job = (saying job).misnamed placeholder

-- the list of a job of this isn't whole in this world
abbrev pub IsUnfinished : World → Subject → Job → Type 0
IsUnfinished world about job = (saying job).unfinished world about

-- the lives of a job are lives
abbrev pub HasLives : Job → Type 0
HasLives job = (saying job).lives

-- the task that the words of a job ask for, whose names are names, at the moment that they fix, or else at
-- one that was told
abbrev pub IsTaskOf : World → Job → Task → Type 0
IsTaskOf world job t = IsTaskFor (saying job).purpose world t

-- the plan of a job: its task, with the vault in its file
abbrev pub IsPlanOf : World → Job → Plan → Type 0
IsPlanOf world job p = IsPlanFor (saying job).purpose world p

-- the parts of its task are values of their types, or the life of its trial is a life
abbrev pub IsProperPlan : Plan → Type 0
IsProperPlan (plan.Trial t) = IsLife t.life
IsProperPlan (plan.Check path) = Unit {0}
IsProperPlan (plan.Migrate path) = Unit {0}
IsProperPlan (plan.Do path t) = AreValues t

-- How a job ends without a plan in this world: one of its words is no name, or no right; its list is refused,
-- or isn't whole; its moment is the clock's, and there is none; or its list isn't read.
abbrev pub EndsBefore : World → Job → Ending → Type 0
EndsBefore world job ending = EndsSo (record no_ending {
  misnamed = λ placeholder. IsMisnamed placeholder job;
  refused = (saying job).refused world;
  unfinished = λ about. IsUnfinished world about job;
  stopped = λ s. (s ≡ stop.Service service.Source) × (saying job).needs_moment
      ⊎ ((about : Subject) × (why : ErrorKind) × (s ≡ stop.Unread about why) × (saying job).has_list about);
}) ending

-- the task that the words of a job ask for, or how it may end without a plan
abbrev pub ComesToTask : World → Job → Result Task Ending → Type 0
ComesToTask world job result = MatchResult result (IsTaskOf world job) (EndsBefore world job)

-- Beside a refusal nothing is said on the errors, or which word of the job that is asked for is no name or no
-- right, or which of its lists isn't whole.
abbrev pub SaysWhy : World → List Text → Said → Type 0
SaysWhy world words errors = SaysAtMost errors (λ it. AsksFor words (IsMisnamed it)) placeholder_line
    ⊎ SaysAtMost errors (λ it. AsksFor words (IsUnfinished world it)) unfinished_line

-- how the words end without a plan: as their job does, or as they ask for none
abbrev pub EndsPlanless : World → List Text → Ending → Type 0 → Type 0
EndsPlanless world words ending unsent =
    AsksFor words (λ job. EndsBefore world job ending) × unsent ⊎ Unasked words ending (Unit {0}) unsent
