-- `rights`: the rights that a file lists.
use Rattle.std.specs.Prelude.{List, [], ◌∷◌, codes}
use Rattle.clap.specs.Words.{App, Row, new_app}
use Rattle.vault_words.specs.Rules.{flag_rule, now_rule, text_rule, with_rules}
use Rattle.vault_words.specs.WordValues.{HasFlag, HasNow, HasText}
use Rattle.vault_words.specs.declared.commands.rights_file.RightsFileJob.{RightsFileJob}

-- rights [--now T] [--exact] [--dry-run] FILE RIGHTS
abbrev pub rights_app : App
rights_app = with_rules (new_app (codes "rights"))
    (now_rule ∷ flag_rule (codes "exact") ∷ flag_rule (codes "dry-run") ∷ text_rule (codes "FILE")
    ∷ text_rule (codes "RIGHTS") ∷ [])

-- the values of rights ask for this job
abbrev pub AsksRights : List Row → RightsFileJob → Type 0
AsksRights rows job =
    HasNow rows job.now × HasFlag rows (codes "exact") job.exact
    × HasFlag rows (codes "dry-run") job.dry_run × HasText rows (codes "FILE") job.file.now
    × HasText rows (codes "RIGHTS") job.rights.now
