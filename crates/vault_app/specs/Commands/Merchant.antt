-- `merchant`: a merchant's lives and its lead.
use Rattle.std.specs.Prelude.{◌≡◌, ℕ, None}
use Rattle.vault_core.specs.Lives.{setting}
use Rattle.vault_core.specs.Name.{IsName}
use Rattle.vault_core.specs.Scalar.{IsLife}
use Rattle.vault_words.specs.Commands.Merchant.{lives_asked}
use Rattle.vault_words.specs.declared.commands.merchant.MerchantJob.{MerchantJob}
use Rattle.vault_jobs.specs.Moments.{IsMomentOf}
use Rattle.vault_jobs.specs.declared.task.Task.{Task}
use Rattle.vault_jobs.specs.declared.task.Task.TheVariants as task
use Rattle.vault_app.specs.Saying.{OfTask, Saying, quiet}
use Rattle.vault_app.specs.World.{World}
use Rattle.vault_app.specs.declared.placeholder.Placeholder.TheVariants.{Name}

-- the merchant is set, at the moment that the words fix, or else at one that was told
abbrev pub IsSettingOf : MerchantJob → World → Task → Type 0
IsSettingOf j world t = IsName j.name.now × ((now : ℕ) × IsMomentOf world.tells j.now now
    × (t ≡ task.Change (setting j.name.now (lives_asked j now))))

-- its name may be none
abbrev pub merchant_says : MerchantJob → Saying
merchant_says j = record (quiet (OfTask j.file (IsSettingOf j))) {
  lives = IsLife j.single_life × IsLife j.multi_life;
  misnamed = λ placeholder. (placeholder ≡ Name) × ¬ (IsName j.name.now);
  needs_moment = j.now ≡ None;
}
