-- `merchant`: a merchant's lives and its lead.
use Rattle.std.specs.Prelude.{ℕ, List, [], ◌∷◌, codes}
use Rattle.clap.specs.Words.{App, Row, new_app}
use Rattle.vault_core.specs.Lives.{handed_lives}
use Rattle.vault_core.specs.declared.row.Lives.{Lives}
use Rattle.vault_words.specs.Rules.{lead_rule, now_rule, number_rule, text_rule, with_rules}
use Rattle.vault_words.specs.WordValues.{HasLead, HasLife, HasNow, HasText}
use Rattle.vault_words.specs.declared.commands.merchant.MerchantJob.{MerchantJob}

-- merchant [--now T] [--lead L] FILE NAME SINGLE MULTI
abbrev pub merchant_app : App
merchant_app = with_rules (new_app (codes "merchant"))
    (now_rule ∷ lead_rule ∷ text_rule (codes "FILE") ∷ text_rule (codes "NAME")
    ∷ number_rule (codes "SINGLE") ∷ number_rule (codes "MULTI") ∷ [])

-- the values of merchant ask for this job
abbrev pub AsksMerchant : List Row → MerchantJob → Type 0
AsksMerchant rows job =
    HasNow rows job.now × HasLead rows job.lead × HasText rows (codes "FILE") job.file.now
    × HasText rows (codes "NAME") job.name.now × HasLife rows (codes "SINGLE") job.single_life
    × HasLife rows (codes "MULTI") job.multi_life

-- what it asks to set a merchant to, at a moment
abbrev pub lives_asked : MerchantJob → ℕ → Lives
lives_asked job now = handed_lives job.single_life job.multi_life job.lead now
