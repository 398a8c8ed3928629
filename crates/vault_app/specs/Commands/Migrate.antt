-- `migrate`: a file moves to the newest schema.
use Rattle.std.specs.Prelude.{◌≡◌, ℤ, Bool, Result, Ok, Err}
use Rattle.vault_file.specs.declared.fault.NotOpened.{NotOpened as FileFault}
use Rattle.vault_words.specs.declared.commands.migrate.MigrateJob.{MigrateJob}
use Rattle.vault_jobs.specs.Streams.{Output}
use Rattle.vault_app.specs.Asked.{schema_line}
use Rattle.vault_app.specs.Endings.{NotedLineEnds}
use Rattle.vault_app.specs.Saying.{OfMove, Saying, quiet}
use Rattle.vault_app.specs.declared.ending.Ending.{Ending}
use Rattle.vault_app.specs.declared.ending.Ending.TheVariants.{NotOpened}
use Rattle.vault_app.specs.declared.note.Note.TheVariants.{Made}

-- the file moves
abbrev pub migrate_says : MigrateJob → Saying
migrate_says j = quiet (OfMove j.file)

-- A migration's line says the newest schema, and what is said beside it tells whether there was no vault in
-- the file; a file that isn't opened is told so, and nothing went out.
abbrev pub TellsMoved : Bool → Result ℤ FileFault → Ending → Output → Type 0
TellsMoved was_empty (Ok version) ending out = NotedLineEnds schema_line was_empty Made ending out
TellsMoved was_empty (Err why) ending out = (ending ≡ NotOpened why) × out.unsent
