use Rattle.vault_core.specs.Vault.{empty_vault}
use Rattle.vault_core.proofs.Empty.{sound-empty}
use Rattle.vault_jobs.proofs.trial.trial_vault.Goals as goal

pub returns-clause-holds : goal.returns-clause-holds
returns-clause-holds c =
    let empty = c.new-vault.ensures.contains empty_vault c.new.ensures sound-empty in
    c.in_ok-give-6.ensures.given _ (c.in_ok-give-5.ensures.given _ (c.in_ok-give-4.ensures.given _
    (c.in_ok-give-3.ensures.given _ (c.in_ok-give-2.ensures.given _ (c.in_ok-give.ensures.given _
    (rw c.usual.ensures at (rw c.setting-set.ensures at (c.in_ok-change.ensures.changed _ empty))))))))
