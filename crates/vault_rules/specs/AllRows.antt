-- The rows of all tables.
use Rattle.std.specs.Prelude.{ℕ, List}
use Rattle.vault_rules.specs.declared.rows.RawVersion.{RawVersion}
use Rattle.vault_rules.specs.declared.rows.RawMerchant.{RawMerchant}
use Rattle.vault_rules.specs.declared.rows.RawCount.{RawCount}
use Rattle.vault_rules.specs.declared.rows.RawCard.{RawCard}
use Rattle.vault_rules.specs.declared.rows.RawEntry.{RawEntry}
use Rattle.vault_rules.specs.declared.rows.RawRecord.{RawRecord}
use Rattle.vault_rules.specs.declared.rows.RawRight.{RawRight}

-- the rows of each table, and how many of the tables that a later schema replaced still have rows
pub record Rows : Type 0 where
  pub versions : List RawVersion
  pub merchants : List RawMerchant
  pub counts : List RawCount
  pub cards : List RawCard
  pub entries : List RawEntry
  pub records : List RawRecord
  pub rights : List RawRight
  pub replaced : ℕ
