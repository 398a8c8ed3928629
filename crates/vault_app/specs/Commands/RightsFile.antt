-- `rights`: the rights that a file lists.
use Rattle.std.specs.Prelude.{◌≡◌, ℕ, None, if◌then◌else◌}
use Rattle.std.specs.Global.{Vec}
use Rattle.vault_rights.specs.Named.{Row}
use Rattle.vault_words.specs.declared.commands.rights_file.RightsFileJob.{RightsFileJob}
use Rattle.vault_jobs.specs.Moments.{IsMomentOf}
use Rattle.vault_jobs.specs.declared.show.Shown.TheVariants as show
use Rattle.vault_jobs.specs.declared.task.Task.{Task}
use Rattle.vault_jobs.specs.declared.task.Task.TheVariants as task
use Rattle.vault_live.specs.declared.subject.Subject.TheVariants.{Rights}
use Rattle.vault_app.specs.Rights.{IsListed, IsRefusedText}
use Rattle.vault_app.specs.Saying.{OfTask, Saying, quiet}
use Rattle.vault_app.specs.World.{World}

-- the task of a list of rights: they are given, the rights become exactly these, or what would change is said
abbrev pub rights_task : RightsFileJob → Vec Row → ℕ → Task
rights_task j rows now =
    if j.dry_run then task.Show (show.Changes j.exact rows now)
    else if j.exact then task.Settle rows now
    else task.Give rows now

-- the task of the rights that its file lists, at the moment that the words fix, or else at one that was told
abbrev pub IsTaskOfList : RightsFileJob → World → Task → Type 0
IsTaskOfList j world t = (rows : Vec Row) × (now : ℕ) × IsListed (world.says j.rights.now) rows.items
    × IsMomentOf world.tells j.now now × (t ≡ rights_task j rows now)

-- it is refused for a text of the file of its list
abbrev pub rights_says : RightsFileJob → Saying
rights_says j = record (quiet (OfTask j.file (IsTaskOfList j))) {
  refused = λ world n. IsRefusedText (world.says j.rights.now) n;
  needs_moment = j.now ≡ None;
  has_list = λ about. about ≡ Rights;
}
