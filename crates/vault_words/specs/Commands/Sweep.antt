-- `sweep`: a merchant's dead tokens, whose card numbers are purged.
use Rattle.std.specs.Prelude.{List, [], ◌∷◌, codes}
use Rattle.clap.specs.Words.{App, Row, new_app}
use Rattle.vault_words.specs.Rules.{now_rule, text_rule, with_rules}
use Rattle.vault_words.specs.WordValues.{HasNow, HasText}
use Rattle.vault_words.specs.declared.commands.sweep.SweepJob.{SweepJob}

-- sweep [--now T] FILE CALLER MERCHANT
abbrev pub sweep_app : App
sweep_app = with_rules (new_app (codes "sweep"))
    (now_rule ∷ text_rule (codes "FILE") ∷ text_rule (codes "CALLER")
    ∷ text_rule (codes "MERCHANT") ∷ [])

-- the values of sweep ask for this job
abbrev pub AsksSweep : List Row → SweepJob → Type 0
AsksSweep rows job =
    HasNow rows job.now × HasText rows (codes "FILE") job.file.now
    × HasText rows (codes "CALLER") job.caller.now
    × HasText rows (codes "MERCHANT") job.merchant.now
