-- `check`: the whole check of a file.
use Rattle.std.specs.Prelude.{◌≡◌, Bool, Result, Ok, Err}
use Rattle.vault_file.specs.declared.fault.NotOpened.{NotOpened as FileFault}
use Rattle.vault_verdict.specs.declared.sizes.Sizes.{Sizes}
use Rattle.vault_words.specs.declared.commands.check.CheckJob.{CheckJob}
use Rattle.vault_jobs.specs.Streams.{Output}
use Rattle.vault_app.specs.Asked.{sound_line}
use Rattle.vault_app.specs.Endings.{NotedLineEnds}
use Rattle.vault_app.specs.Saying.{OfCheck, Saying, quiet}
use Rattle.vault_app.specs.declared.ending.Ending.{Ending}
use Rattle.vault_app.specs.declared.ending.Ending.TheVariants.{NotOpened}
use Rattle.vault_app.specs.declared.note.Note.TheVariants.{Log}

-- the file is checked
abbrev pub check_says : CheckJob → Saying
check_says j = quiet (OfCheck j.file)

-- A check's line has the sizes of the vault, and what is said beside it tells whether the file has a log; a
-- file that isn't opened is told so, and nothing went out.
abbrev pub TellsSizes : Bool → Result Sizes FileFault → Ending → Output → Type 0
TellsSizes log (Ok sizes) ending out = NotedLineEnds (sound_line sizes) log Log ending out
TellsSizes log (Err why) ending out = (ending ≡ NotOpened why) × out.unsent
