use Rattle.std.proofs.Common.{subst, sym}
use Rattle.std.specs.Prelude.{All}
use Rattle.vault_changes.proofs.SettingMerchants.{settings_carried}
use Rattle.vault_changes.specs.Carried.{IsCarriedOut}
use Rattle.vault_changes.proofs.settings.settings_to.Goals as goal

pub returns-in-Ok-clause-carried : goal.returns-in-Ok-clause-carried
returns-in-Ok-clause-carried g c = λ lives.
    subst (All IsCarriedOut) (sym c.in-Ok.ensures)
    (settings_carried c.args.now c.args.rows.now c.as_slice.result.now lives)
