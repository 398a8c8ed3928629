-- Connections that hold a vault.
use Rattle.std.specs.Prelude.{◌≡◌, ◌⊎◌, false, None, IsTrue}
use Rattle.sqlite.specs.Effect.{IsDatabase}
use Rattle.sqlite.specs.State.{State}
use Rattle.sqlite.specs.Tree.{Trees}
use Rattle.sqlite_catalog.specs.Listing.{IsSound}
use Rattle.vault_core.specs.Vault.{Vault, empty_vault}
use Rattle.vault_schema.specs.Schema.{newest_schema}
use Rattle.vault_schema.specs.Stands.{Stands, lookups_of}
use Rattle.vault_schema.specs.Versions.{AreOf, HoldsOf}
use Rattle.vault_schema.specs.declared.version.Version.{Version}

-- the connection is outside a transaction, and what it sees stands for the vault
pub record Holds (s : State) (V : Vault) : Type 0 where
  pub is_open : IsTrue s.is_open
  pub autocommit : s.in_transaction ≡ false
  pub unlimited : s.step_limit ≡ None
  pub schema : s.now.schema ≡ newest_schema
  pub sound : IsDatabase s.now
  pub settled : s.now ≡ s.committed
  pub stands : Stands s.now.trees V

-- a sound database in the schema of a vault, whose rows are those of this one
pub record AreOurs (db : Trees) (V : Vault) : Type 0 where
  pub sound : IsSound newest_schema db
  pub stands : Stands db V

-- the rows are those of the one vault or of the other
abbrev pub AreEither : Vault → Vault → Trees → Type 0
AreEither before after db = AreOurs db before ⊎ AreOurs db after

-- the trees are these, or their rows are those of the empty vault
abbrev pub AreFirst : Trees → Trees → Type 0
AreFirst before db = (db ≡ before) ⊎ AreOurs db empty_vault

-- each state that a crash may leave now is that of one of these
abbrev pub LeavesEither : State → Vault → Vault → Type 0
LeavesEither s before after = (db : Trees) → s.may_leave db → AreEither before after db

-- each state that a crash may leave now has these trees, or is that of the empty vault
abbrev pub LeavesFirst : State → Trees → Type 0
LeavesFirst s before = (db : Trees) → s.may_leave db → AreFirst before db

-- ---- in each version, where what it can't hold has its default

-- the connection holds the vault in this version
abbrev pub HoldsIn : Version → Vault → State → Type 0
HoldsIn v V st = HoldsOf v (lookups_of V) st

-- a sound database in this version's schema, whose rows are those of the vault
abbrev pub AreIn : Version → Vault → Trees → Type 0
AreIn v V db = AreOf v (lookups_of V) db
