-- Some of the tables in memory, with the vault that they are of.
use Rattle.std.specs.Prelude.{ℕ}
use Rattle.std.specs.BTreeMap as rows
use Rattle.vault_core.specs.Keys.{Bytes, record_cmp, right_cmp}
use Rattle.vault_core.specs.Vault.{Vault}
use Rattle.vault_core.specs.declared.right.Right.{Right}
use Rattle.vault_core.specs.declared.row.GrantRow.{GrantRow}
use Rattle.vault_core.specs.declared.row.MerchantRow.{MerchantRow}
use Rattle.vault_core.specs.declared.row.Record.{Record}
use Rattle.vault_store.specs.Shown.{Shows}
use Rattle.vault_store.specs.ShownMerchants.{ShowsMerchants}

-- the rights and the merchants of a vault
pub record HoldsRights (rights : rows.BTreeMap (Bytes × (Bytes × Right)) GrantRow)
    (merchants : rows.BTreeMap Bytes MerchantRow) (V : Vault) : Type 0 where
  pub rights_are : Shows right_cmp rights V.rights
  pub merchants_are : ShowsMerchants merchants V

-- the records of a vault, with its rights and merchants
pub record HoldsRecords (records : rows.BTreeMap (Bytes × ℕ) Record)
    (rights : rows.BTreeMap (Bytes × (Bytes × Right)) GrantRow) (merchants : rows.BTreeMap Bytes MerchantRow)
    (V : Vault) : Type 0 where
  pub records_are : Shows record_cmp records V.records
  pub others : HoldsRights rights merchants V
