-- Entries in memory that hold those of a vault.
use Rattle.std.specs.FinMap as map
use Rattle.vault_core.specs.Keys.{entry_cmp}
use Rattle.vault_core.specs.declared.row.Entry.{Entry}
use Rattle.vault_store.specs.Index.{ShowsIndex}
use Rattle.vault_store.specs.Shown.{Shows}
use Rattle.vault_store.specs.declared.memory.entries.Entries.{Entries}

-- the rows of the entries, with their index
pub record HoldsEntries (entries : Entries) (F : map.FinMap entry_cmp Entry) : Type 0 where
  pub rows : Shows entry_cmp entries.rows F
  pub index : ShowsIndex entries.index F
