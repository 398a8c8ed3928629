-- Tables in memory that hold a vault.
use Rattle.vault_core.specs.Keys.{record_cmp, right_cmp}
use Rattle.vault_core.specs.Vault.{Vault}
use Rattle.vault_store.specs.HeldEntries.{HoldsEntries}
use Rattle.vault_store.specs.Shown.{Shows}
use Rattle.vault_store.specs.ShownMerchants.{ShowsMerchants}
use Rattle.vault_store.specs.declared.memory.MemTables.{MemTables}

-- the tables hold the vault
pub record IsHeld (t : MemTables) (V : Vault) : Type 0 where
  pub merchants : ShowsMerchants t.merchants V
  pub entries : HoldsEntries t.entries V.entries
  pub records : Shows record_cmp t.records V.records
  pub rights : Shows right_cmp t.rights V.rights
