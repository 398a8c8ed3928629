-- `check`: the whole check of a file.
use Rattle.std.specs.Prelude.{List, [], ◌∷◌, codes}
use Rattle.clap.specs.Words.{App, Row, new_app}
use Rattle.vault_words.specs.Rules.{text_rule, with_rules}
use Rattle.vault_words.specs.WordValues.{HasText}
use Rattle.vault_words.specs.declared.commands.check.CheckJob.{CheckJob}

-- check FILE
abbrev pub check_app : App
check_app = with_rules (new_app (codes "check")) (text_rule (codes "FILE") ∷ [])

-- the values of check ask for this job
abbrev pub AsksCheck : List Row → CheckJob → Type 0
AsksCheck rows job = HasText rows (codes "FILE") job.file.now
