use Rattle.vault_rules.proofs.LeastLemmas.{all_kept, first_is_least}
use Rattle.vault_rules.proofs.least.least_broken.Goals as goal

pub returns-clause-none : goal.returns-clause-none
returns-clause-none c rows has =
    all_kept rows _ c.first_broken.result (c.verdicts-kept.ensures rows has) c.first_broken.ensures.none

pub returns-clause-some : goal.returns-clause-some
returns-clause-some c rows has =
    first_is_least rows _ c.first_broken.result (c.verdicts-kept.ensures rows has) c.first_broken.ensures.some
