-- The tables and indexes of each version, with their trees.
use Rattle.std.specs.Prelude.{◌++◌, List, [], ◌∷◌}
use Rattle.sqlite.specs.Schema.{Schema}
use Rattle.sqlite.specs.Table.{Table}
use Rattle.sqlite_schema.specs.declared.schema.Index.{Index}
use Rattle.sql_tables.specs.Schema.{grown, table_of}
use Rattle.vault_schema.specs.Cards.{card_indexes, cards}
use Rattle.vault_schema.specs.Counts.{count_indexes, counts}
use Rattle.vault_schema.specs.Entries.{old_entries, old_entry_indexes, entries, entry_indexes}
use Rattle.vault_schema.specs.Merchants.{old_merchant_indexes, old_merchants, merchant_indexes, merchants}
use Rattle.vault_schema.specs.Records.{record_indexes, records}
use Rattle.vault_schema.specs.Rights.{old_right_indexes, old_rights, right_indexes, rights}
use Rattle.vault_schema.specs.VersionRows.{vault}

-- ---- schema 1

abbrev pub v1 : Schema
v1 = record {
  tables = table_of vault ∷ table_of old_merchants ∷ table_of counts ∷ table_of old_entries
      ∷ table_of records ∷ table_of old_rights ∷ [];
  indexes = old_merchant_indexes ++ count_indexes ++ old_entry_indexes ++ record_indexes
      ++ old_right_indexes;
  views = [];
}

-- ---- schema 2: cards, and the entries that point at them, behind the tables of schema 1

abbrev pub tables2 : List Table
tables2 = table_of cards ∷ table_of entries ∷ []

abbrev pub indexes2 : List Index
indexes2 = card_indexes ++ entry_indexes

abbrev pub v2 : Schema
v2 = grown v1 tables2 indexes2

-- ---- schema 3: merchants with a lead, behind the tables of schema 2

abbrev pub tables3 : List Table
tables3 = table_of merchants ∷ []

abbrev pub indexes3 : List Index
indexes3 = merchant_indexes

abbrev pub v3 : Schema
v3 = grown v2 tables3 indexes3

-- ---- schema 4: rights that may end, behind the tables of schema 3

abbrev pub tables4 : List Table
tables4 = table_of rights ∷ []

abbrev pub indexes4 : List Index
indexes4 = right_indexes

abbrev pub v4 : Schema
v4 = grown v3 tables4 indexes4
