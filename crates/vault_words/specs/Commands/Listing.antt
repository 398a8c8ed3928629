-- `list`: the merchants and the rights that a file holds.
use Rattle.std.specs.Prelude.{List, [], ◌∷◌, codes}
use Rattle.clap.specs.Words.{App, Row, new_app}
use Rattle.vault_words.specs.Rules.{flag_rule, text_rule, with_rules}
use Rattle.vault_words.specs.WordValues.{HasFlag, HasText}
use Rattle.vault_words.specs.declared.commands.list.ListJob.{ListJob}

-- list [--json] FILE
abbrev pub list_app : App
list_app = with_rules (new_app (codes "list")) (flag_rule (codes "json") ∷ text_rule (codes "FILE") ∷ [])

-- the values of list ask for this job
abbrev pub AsksList : List Row → ListJob → Type 0
AsksList rows job = HasFlag rows (codes "json") job.json × HasText rows (codes "FILE") job.file.now
