-- Old entries as entries of a vault.
use Rattle.std.specs.Prelude.{drop}
use Rattle.sqlite.specs.Order.{Row}
use Rattle.vault_core.specs.Keys.{Bytes}
use Rattle.vault_core.specs.declared.row.Entry.{Entry}
use Rattle.vault_tables.specs.EntryTexts.{old_entry_values}
use Rattle.vault_tables.specs.declared.entries.old.OldEntry.{OldEntry}
use Rattle.vault_schema.specs.Entries.{entry_row}

-- the columns of an old entry behind its rowid
abbrev pub old_columns : OldEntry → Row
old_columns e = drop 1 (old_entry_values e)

-- and those of an entry, with its merchant and its token
abbrev pub typed_columns : Bytes × Bytes × Entry → Row
typed_columns x = entry_row (x.0, x.1) x.2
