-- `batch`: rows answered by the vault of a file.
use Rattle.std.specs.Prelude.{◌≡◌}
use Rattle.vault_core.specs.Name.{IsName}
use Rattle.vault_batch.specs.declared.asker.Asker.{Asker}
use Rattle.vault_words.specs.declared.commands.batch.BatchJob.{BatchJob}
use Rattle.vault_jobs.specs.declared.task.Task.{Task}
use Rattle.vault_jobs.specs.declared.task.Task.TheVariants as task
use Rattle.vault_app.specs.Asked.{MisnamesAsker}
use Rattle.vault_app.specs.Saying.{OfTask, Saying, quiet}
use Rattle.vault_app.specs.World.{World}

-- in the caller's name at the merchant, with the moment and the digits that the words fix
abbrev pub IsBatchOf : BatchJob → World → Task → Type 0
IsBatchOf j world t = (IsName j.caller.now × IsName j.merchant.now)
    × ((who : Asker) × (who.caller ≡ j.caller.now) × (who.merchant ≡ j.merchant.now)
    × (t ≡ task.Batch who j.now j.digits))

-- its caller or its merchant may be no name
abbrev pub batch_says : BatchJob → Saying
batch_says j = record (quiet (OfTask j.file (IsBatchOf j))) {
  misnamed = MisnamesAsker j.caller.now j.merchant.now;
}
