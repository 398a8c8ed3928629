-- `batch`: rows answered by the vault of a file.
use Rattle.std.specs.Prelude.{List, [], ◌∷◌, codes}
use Rattle.clap.specs.Words.{App, Row, new_app}
use Rattle.vault_words.specs.Rules.{digits_rule, now_rule, text_rule, with_rules}
use Rattle.vault_words.specs.WordValues.{HasDigits, HasNow, HasText}
use Rattle.vault_words.specs.declared.commands.batch.BatchJob.{BatchJob}

-- batch [--now T] [--digits D] FILE CALLER MERCHANT
abbrev pub batch_app : App
batch_app = with_rules (new_app (codes "batch"))
    (now_rule ∷ digits_rule ∷ text_rule (codes "FILE") ∷ text_rule (codes "CALLER")
    ∷ text_rule (codes "MERCHANT") ∷ [])

-- the values of batch ask for this job
abbrev pub AsksBatch : List Row → BatchJob → Type 0
AsksBatch rows job =
    HasNow rows job.now × HasDigits rows job.digits × HasText rows (codes "FILE") job.file.now
    × HasText rows (codes "CALLER") job.caller.now
    × HasText rows (codes "MERCHANT") job.merchant.now
