-- The vaults that tables in a database hold.
use Rattle.std.specs.Prelude.{◌≡◌, None, false}
use Rattle.sqlite.specs.Held.{state}
use Rattle.sqlite.specs.State.{HasCleanDisk}
use Rattle.sqlite_trees.specs.declared.store.Store as store
use Rattle.vault_core.specs.Vault.{Vault}
use Rattle.vault_schema.specs.Holds.{Holds}
use Rattle.vault_sql.specs.Places.{IsPast}
use Rattle.vault_sql.specs.Remembered.{IsOf, nothing}
use Rattle.vault_sql.specs.declared.tables.SqlTables.{SqlTables}

module _ {S : Type 0} {g : store.Ghosts S} (t : SqlTables S g) where
  -- what tables know beside their connection is so of the vault: no dead token comes before their place, and
  -- what they remember is the vault's
  abbrev pub Know : Vault → Type 0
  Know V = IsPast t.place V × IsOf t.remembered V

  -- no call of the tables failed, and on an honest disk their connection holds the vault, of which all that
  -- they know is so
  abbrev pub AreHeld : Vault → Type 0
  AreHeld V = (t.failed ≡ false) × (HasCleanDisk (state g t.conn) → Holds (state g t.conn) V × Know V)

  -- no call of the tables failed, they have no place, and they remember nothing
  abbrev pub AreFresh : Type 0
  AreFresh = (t.failed ≡ false) × (t.place ≡ None) × (t.remembered ≡ nothing)
