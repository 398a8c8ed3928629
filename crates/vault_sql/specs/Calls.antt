-- What a call does to a connection that holds a vault.
use Rattle.std.specs.Prelude.{Result, IfOk}
use Rattle.sqlite.specs.State.{State, HasCleanDisk}
use Rattle.sql_tables.specs.States.{Reads}
use Rattle.vault_core.specs.Vault.{Vault}
use Rattle.vault_schema.specs.Holds.{Holds}
use Rattle.vault_schema.specs.Schema.{newest_schema}

-- it only reads, and what it answers is so of each vault that is held
pub record Tells {R E : Type 0} (result : Result R E) (Is : Vault → R → Type 0) (old new : State) : Type 0
  where
    pub reads : Reads newest_schema result old new
    pub told : HasCleanDisk new → IfOk result (λ x. (V : Vault) → Holds old V → Is V x)
