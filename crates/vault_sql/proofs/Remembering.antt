-- What tables remember, before the first call.
use Rattle.std.proofs.Common.{None}
use Rattle.std.proofs.lemmas.List.Elements.{All-replicate}
use Rattle.vault_core.specs.Vault.{Vault}
use Rattle.vault_sql.specs.Remembered.{IsOf, IsRightOf, IsRowOf, nothing}
use Rattle.vault_sql.specs.declared.remembered.TheConstants.{MERCHANTS, RIGHTS}

-- where nothing is remembered, it is so of each vault
pub nothing_is : (V : Vault) → IsOf nothing V
nothing_is V = record {
  rows = All-replicate (IsRowOf V) MERCHANTS None tt;
  rights = All-replicate (IsRightOf V) RIGHTS None tt;
}
