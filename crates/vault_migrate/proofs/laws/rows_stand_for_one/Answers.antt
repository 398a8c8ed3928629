use Rattle.vault_migrate.proofs.OneVault.{one_vault}
use Rattle.vault_migrate.proofs.laws.rows_stand_for_one.Goals as goal

pub returns : goal.returns
returns c = one_vault
