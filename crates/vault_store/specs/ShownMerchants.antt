-- How the rows of merchants show a vault, and how they change.
use Rattle.std.specs.Prelude.{◌≡◌, ◌<◌, ◌+◌, ◌^◌, Option, Some, None}
use Rattle.std.specs.FinMap as map
use Rattle.std.specs.BTreeMap as rows
use Rattle.vault_core.specs.Keys.{Bytes, bytes_cmp}
use Rattle.vault_core.specs.Lives.{counted_row}
use Rattle.vault_core.specs.Vault.{Vault}
use Rattle.vault_core.specs.Window.{row_at}
use Rattle.vault_core.specs.declared.changes.Count.{Count}
use Rattle.vault_core.specs.declared.changes.Count.TheVariants.{Made, Given, Denied}
use Rattle.vault_core.specs.declared.row.Lives.{Lives}
use Rattle.vault_core.specs.declared.row.MerchantRow.{MerchantRow}

-- each merchant's row, with the count of its tokens, and as many rows as merchants
pub record ShowsMerchants (shown : rows.BTreeMap Bytes MerchantRow) (V : Vault) : Type 0 where
  pub at : (m : Bytes) → rows.get bytes_cmp shown m ≡ row_at V m
  pub many : rows.btree_map_len shown ≡ map.len V.merchants

-- a merchant's row with its new lives, lead and moment, and its counts as they were
abbrev pub row_with : Lives → Option MerchantRow → MerchantRow
row_with lives None = counted_row lives 0 0 0
row_with lives (Some row) = counted_row lives row.made row.given row.denied

-- a row with one more in the count that goes up
abbrev pub row_raised : Option Count → MerchantRow → MerchantRow
row_raised None row = row
row_raised (Some Made) row = record row { made = row.made + 1 }
row_raised (Some Given) row = record row { given = row.given + 1 }
row_raised (Some Denied) row = record row { denied = row.denied + 1 }

-- each count can go up
pub record HasRoom (row : MerchantRow) : Type 0 where
  pub made : row.made < 2 ^ 63
  pub given : row.given < 2 ^ 63
  pub denied : row.denied < 2 ^ 63
