-- `sweep`: a merchant's dead tokens, whose card numbers are purged in the vault of a file.
use Rattle.std.specs.Prelude.{◌≡◌, ℕ, None}
use Rattle.vault_core.specs.Name.{IsName}
use Rattle.vault_batch.specs.declared.asker.Asker.{Asker}
use Rattle.vault_words.specs.declared.commands.sweep.SweepJob.{SweepJob}
use Rattle.vault_jobs.specs.Moments.{IsMomentOf, giver_of}
use Rattle.vault_jobs.specs.declared.task.Task.{Task}
use Rattle.vault_jobs.specs.declared.task.Task.TheVariants as task
use Rattle.vault_app.specs.Asked.{MisnamesAsker}
use Rattle.vault_app.specs.Saying.{OfTask, Saying, quiet}
use Rattle.vault_app.specs.World.{World}

-- in the caller's name at the merchant, at the moment that the words fix, or else at one that was told
abbrev pub IsSweepOf : SweepJob → World → Task → Type 0
IsSweepOf j world t = (IsName j.caller.now × IsName j.merchant.now)
    × ((who : Asker) × (now : ℕ) × (who.caller ≡ j.caller.now) × (who.merchant ≡ j.merchant.now)
    × IsMomentOf world.tells j.now now × (t ≡ task.Sweep who now (giver_of j.now)))

-- its caller or its merchant may be no name
abbrev pub sweep_says : SweepJob → Saying
sweep_says j = record (quiet (OfTask j.file (IsSweepOf j))) {
  misnamed = MisnamesAsker j.caller.now j.merchant.now;
  needs_moment = j.now ≡ None;
}
