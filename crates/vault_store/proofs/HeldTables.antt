-- The tables in memory, taken apart and put together.
use Rattle.vault_core.specs.Vault.{Vault}
use Rattle.vault_store.specs.HeldInMemory.{IsHeld}
use Rattle.vault_store.specs.HeldEntries.{HoldsEntries}
use Rattle.vault_store.specs.Written.{HoldsRecords}
use Rattle.vault_store.specs.declared.memory.MemTables.{MemTables}

-- what tables hold beside their entries
pub beside_entries : (t : MemTables) (V : Vault) → IsHeld t V → HoldsRecords t.records t.rights t.merchants V
beside_entries t V held = record {
  records_are = held.records;
  others = record { rights_are = held.rights; merchants_are = held.merchants };
}

-- and with their entries they hold all
pub whole : (t : MemTables) (V : Vault) → HoldsRecords t.records t.rights t.merchants V
    → HoldsEntries t.entries V.entries → IsHeld t V
whole t V others entries = record {
  merchants = others.others.merchants_are;
  entries = entries;
  records = others.records_are;
  rights = others.others.rights_are;
}
