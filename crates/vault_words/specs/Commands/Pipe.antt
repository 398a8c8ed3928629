-- `pipe`: messages answered by the vault of a file.
use Rattle.std.specs.Prelude.{List, [], ◌∷◌, codes}
use Rattle.clap.specs.Words.{App, Row, new_app}
use Rattle.vault_words.specs.Rules.{digits_rule, now_rule, text_rule, with_rules}
use Rattle.vault_words.specs.WordValues.{HasDigits, HasNow, HasText}
use Rattle.vault_words.specs.declared.commands.pipe.PipeJob.{PipeJob}

-- pipe [--now T] [--digits D] FILE
abbrev pub pipe_app : App
pipe_app = with_rules (new_app (codes "pipe"))
    (now_rule ∷ digits_rule ∷ text_rule (codes "FILE") ∷ [])

-- the values of pipe ask for this job
abbrev pub AsksPipe : List Row → PipeJob → Type 0
AsksPipe rows job =
    HasNow rows job.now × HasDigits rows job.digits × HasText rows (codes "FILE") job.file.now
