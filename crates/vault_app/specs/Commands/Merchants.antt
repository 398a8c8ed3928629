-- `merchants`: the merchants that a list has.
use Rattle.std.specs.Prelude.{◌≡◌, ℕ, None, if◌then◌else◌}
use Rattle.std.specs.Global.{Vec}
use Rattle.vault_merchants.specs.ListedMerchants.{Wanted}
use Rattle.vault_words.specs.declared.commands.merchants.MerchantsJob.{MerchantsJob}
use Rattle.vault_jobs.specs.Moments.{IsMomentOf}
use Rattle.vault_jobs.specs.declared.show.Shown.TheVariants as show
use Rattle.vault_jobs.specs.declared.task.Task.{Task}
use Rattle.vault_jobs.specs.declared.task.Task.TheVariants as task
use Rattle.vault_app.specs.Merchants.{AreMerchantsOf, IsRefusedList}
use Rattle.vault_app.specs.Saying.{OfTask, Saying, quiet}
use Rattle.vault_live.specs.declared.subject.Subject.TheVariants.{Merchants}
use Rattle.vault_app.specs.World.{World}

-- the task of a list of merchants: they are set, or what would change is said
abbrev pub merchants_task : MerchantsJob → Vec Wanted → ℕ → Task
merchants_task j rows now =
    if j.dry_run then task.Show (show.Settings rows now) else task.SetMerchants rows now

-- the task of the merchants that its file lists, at the moment that the words fix, or else at one that was
-- told
abbrev pub IsTaskOfMerchants : MerchantsJob → World → Task → Type 0
IsTaskOfMerchants j world t = (rows : Vec Wanted) × (now : ℕ)
    × AreMerchantsOf (world.says j.list.now) rows.items × IsMomentOf world.tells j.now now
    × (t ≡ merchants_task j rows now)

-- it is refused for a text of the file of its list
abbrev pub merchants_says : MerchantsJob → Saying
merchants_says j = record (quiet (OfTask j.file (IsTaskOfMerchants j))) {
  refused = λ world n. IsRefusedList (world.says j.list.now) n;
  needs_moment = j.now ≡ None;
  has_list = λ about. about ≡ Merchants;
}
