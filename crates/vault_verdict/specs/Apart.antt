-- Rows of which no rowid comes twice.
use Rattle.std.specs.Prelude.{ℤ, Bool, IsTrue, List, map}
use Rattle.std.specs.List.Sorted.{IsSortedByKey}
use Rattle.std.specs.Ordering.{int_cmp}
use Rattle.sqlite.specs.Order.{Row}
use Rattle.sqlite.specs.Tree.{Trees}
use Rattle.vault_tables.specs.MerchantTexts.{merchant_values}
use Rattle.vault_tables.specs.RightTexts.{right_values}
use Rattle.vault_tables.specs.CardTexts.{card_row}
use Rattle.vault_tables.specs.CountTexts.{count_values}
use Rattle.vault_tables.specs.EntryTexts.{entry_values}
use Rattle.vault_tables.specs.RecordTexts.{record_values}
use Rattle.vault_verdict.specs.ReadAs.{merchants_in, rights_in}
use Rattle.vault_rules.specs.AllRows.{Rows}
use Rattle.sql_tables.specs.Rows.{IsApart}
use Rattle.vault_schema.specs.Layers.{Either}
use Rattle.vault_schema.specs.Versions.{has_cards}
use Rattle.vault_schema.specs.declared.version.Version.{Version}

-- That no rowid comes twice is told: with true it is so, and of rows in the order of their rowids only with
-- true.
pub record TellsApart {R : Type 0} (values : R → Row) (id : R → ℤ) (rows : List R) (told : Bool) : Type
    0 where
  pub apart : IsTrue told → IsApart (map values rows)
  pub only : IsSortedByKey id int_cmp rows → IsApart (map values rows) → IsTrue told

-- in no table a rowid comes twice
pub record AreApart (rows : Rows) : Type 0 where
  pub merchants : IsApart (map merchant_values rows.merchants)
  pub counts : IsApart (map count_values rows.counts)
  pub cards : IsApart (map card_row rows.cards)
  pub entries : IsApart (map entry_values rows.entries)
  pub records : IsApart (map record_values rows.records)
  pub rights : IsApart (map right_values rows.rights)

-- in no table of cards and entries of a version a rowid comes twice
abbrev pub AreEntriesApart : Version → Trees → Type 0
AreEntriesApart v db = Either (has_cards v) (IsApart (db 12) × IsApart (db 14)) (IsApart (db 5))

-- in no table of a version beside `vault` a rowid comes twice
pub record AreTablesApart (v : Version) (db : Trees) : Type 0 where
  pub merchants : IsApart (merchants_in v db)
  pub counts : IsApart (db 3)
  pub entries : AreEntriesApart v db
  pub records : IsApart (db 8)
  pub rights : IsApart (rights_in v db)

-- in some table of a version a rowid comes twice
abbrev pub SharesRowid : Version → Trees → Type 0
SharesRowid v db = ¬ AreTablesApart v db

-- the rows of each table ascend by their rowids
pub record AreByRowid (rows : Rows) : Type 0 where
  pub merchants : IsSortedByKey (λ m. m.rowid) int_cmp rows.merchants
  pub counts : IsSortedByKey (λ c. c.rowid) int_cmp rows.counts
  pub cards : IsSortedByKey (λ c. c.id) int_cmp rows.cards
  pub entries : IsSortedByKey (λ e. e.rowid) int_cmp rows.entries
  pub records : IsSortedByKey (λ r. r.rowid) int_cmp rows.records
  pub rights : IsSortedByKey (λ r. r.rowid) int_cmp rows.rights
