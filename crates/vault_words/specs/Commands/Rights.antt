-- `grant` and `withdraw`: a caller's right at a merchant.
use Rattle.std.specs.Prelude.{List, [], ◌∷◌, codes}
use Rattle.clap.specs.Words.{App, Row, Rule, new_app}
use Rattle.vault_words.specs.Rules.{now_rule, text_rule, until_rule, with_rules}
use Rattle.vault_words.specs.WordValues.{HasNow, HasText, HasUntil}
use Rattle.vault_words.specs.declared.commands.rights.GrantJob.{GrantJob}
use Rattle.vault_words.specs.declared.commands.rights.RightJob.{RightJob}

-- FILE CALLER MERCHANT RIGHT
abbrev pub right_rules : List Rule
right_rules =
    text_rule (codes "FILE") ∷ text_rule (codes "CALLER") ∷ text_rule (codes "MERCHANT")
    ∷ text_rule (codes "RIGHT") ∷ []

-- grant [--now T] [--until T] FILE CALLER MERCHANT RIGHT
abbrev pub grant_app : App
grant_app = with_rules (new_app (codes "grant")) (now_rule ∷ until_rule ∷ right_rules)

-- withdraw [--now T] FILE CALLER MERCHANT RIGHT
abbrev pub withdraw_app : App
withdraw_app = with_rules (new_app (codes "withdraw")) (now_rule ∷ right_rules)

-- the values of withdraw, or of grant but for --until, ask for this job
abbrev pub AsksRight : List Row → RightJob → Type 0
AsksRight rows job =
    HasNow rows job.now × HasText rows (codes "FILE") job.file.now
    × HasText rows (codes "CALLER") job.caller.now
    × HasText rows (codes "MERCHANT") job.merchant.now × HasText rows (codes "RIGHT") job.right.now

-- the values of grant ask for this job
abbrev pub AsksGrant : List Row → GrantJob → Type 0
AsksGrant rows job = AsksRight rows job.given × HasUntil rows job.until
