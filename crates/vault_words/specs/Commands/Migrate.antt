-- `migrate`: a file moves to the newest schema.
use Rattle.std.specs.Prelude.{List, [], ◌∷◌, codes}
use Rattle.clap.specs.Words.{App, Row, new_app}
use Rattle.vault_words.specs.Rules.{text_rule, with_rules}
use Rattle.vault_words.specs.WordValues.{HasText}
use Rattle.vault_words.specs.declared.commands.migrate.MigrateJob.{MigrateJob}

-- migrate FILE
abbrev pub migrate_app : App
migrate_app = with_rules (new_app (codes "migrate")) (text_rule (codes "FILE") ∷ [])

-- the values of migrate ask for this job
abbrev pub AsksMigrate : List Row → MigrateJob → Type 0
AsksMigrate rows job = HasText rows (codes "FILE") job.file.now
