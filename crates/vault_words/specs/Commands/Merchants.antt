-- `merchants`: the merchants that a list has.
use Rattle.std.specs.Prelude.{List, [], ◌∷◌, codes}
use Rattle.clap.specs.Words.{App, Row, new_app}
use Rattle.vault_words.specs.Rules.{flag_rule, now_rule, text_rule, with_rules}
use Rattle.vault_words.specs.WordValues.{HasFlag, HasNow, HasText}
use Rattle.vault_words.specs.declared.commands.merchants.MerchantsJob.{MerchantsJob}

-- merchants [--now T] [--dry-run] FILE LIST
abbrev pub merchants_app : App
merchants_app = with_rules (new_app (codes "merchants"))
    (now_rule ∷ flag_rule (codes "dry-run") ∷ text_rule (codes "FILE") ∷ text_rule (codes "LIST") ∷ [])

-- the values of merchants ask for this job
abbrev pub AsksMerchants : List Row → MerchantsJob → Type 0
AsksMerchants rows job =
    HasNow rows job.now × HasFlag rows (codes "dry-run") job.dry_run
    × HasText rows (codes "FILE") job.file.now × HasText rows (codes "LIST") job.list.now
