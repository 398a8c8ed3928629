-- What a stop leaves: from some call to the store on, every call fails, and then the store holds any state
-- that a crash may leave there.
use Rattle.std.specs.Prelude.{Result, Ok, Err}
use Rattle.vault_core.specs.Vault.{Vault}
use Rattle.vault_store.specs.declared.vault.Fault.{Fault}
use Rattle.vault_store.specs.declared.vault.Fault.TheVariants.{Memory, Store, Reopen}

-- what a crash may leave after a command: with an answer the vault after it, after want of memory the vault
-- before it, after a fault of the store one of the two
abbrev pub LeavesBy : {X : Type 0} → Result X Fault → (Vault → Vault → Type 0) → Vault → Vault → Type 0
LeavesBy (Ok x) leaves before after = leaves after after
LeavesBy (Err Memory) leaves before after = leaves before before
LeavesBy (Err Store) leaves before after = leaves before after
LeavesBy (Err Reopen) leaves before after = Unit {0}
