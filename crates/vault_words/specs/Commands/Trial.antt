-- `trial`: messages answered by a vault in memory.
use Rattle.std.specs.Prelude.{List, [], ◌∷◌, codes}
use Rattle.clap.specs.Words.{App, Row, new_app}
use Rattle.vault_words.specs.Rules.{digits_rule, now_rule, number_rule, text_rule, with_rules}
use Rattle.vault_words.specs.WordValues.{HasDigits, HasLife, HasNow, HasText}
use Rattle.vault_words.specs.declared.commands.trial.TrialJob.{TrialJob}

-- trial [--now T] [--digits D] CALLER MERCHANT LIFE
abbrev pub trial_app : App
trial_app = with_rules (new_app (codes "trial"))
    (now_rule ∷ digits_rule ∷ text_rule (codes "CALLER") ∷ text_rule (codes "MERCHANT")
    ∷ number_rule (codes "LIFE") ∷ [])

-- the values of trial ask for this job
abbrev pub AsksTrial : List Row → TrialJob → Type 0
AsksTrial rows job =
    HasNow rows job.now × HasDigits rows job.digits × HasText rows (codes "CALLER") job.caller.now
    × HasText rows (codes "MERCHANT") job.merchant.now × HasLife rows (codes "LIFE") job.life
