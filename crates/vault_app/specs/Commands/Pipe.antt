-- `pipe`: messages answered by the vault of a file.
use Rattle.std.specs.Prelude.{◌≡◌}
use Rattle.vault_words.specs.declared.commands.pipe.PipeJob.{PipeJob}
use Rattle.vault_jobs.specs.declared.task.Task.TheVariants as task
use Rattle.vault_app.specs.Saying.{OfTask, Saying, quiet}

-- with the moment and the digits that the words fix
abbrev pub pipe_says : PipeJob → Saying
pipe_says j = quiet (OfTask j.file (λ world t. t ≡ task.Pipe j.now j.digits))
