-- What a command leaves of a vault over tables.
use Rattle.std.specs.Prelude.{◌≡◌, Bool, true, false, Result, Ok, Err}
use Rattle.vault_refusal.specs.declared.refusal.Refusal.{Refusal}
use Rattle.vault_refusal.specs.declared.refusal.Refusal.TheVariants as refusal
use Rattle.vault_core.specs.Sound.{Sound}
use Rattle.vault_core.specs.Table.{after, reply}
use Rattle.vault_core.specs.Vault.{Vault as Content}
use Rattle.vault_core.specs.declared.command.Command.{Command}
use Rattle.vault_core.specs.declared.reply.Reply.{Reply}
use Rattle.vault_store.specs.declared.tables.Tables.{Ghosts}
use Rattle.vault_store.specs.declared.tables.TablesFault.{TablesFault}
use Rattle.vault_store.specs.declared.tables.TablesFault.TheVariants as tables
use Rattle.vault_store.specs.declared.vault.Fault.{Fault}
use Rattle.vault_store.specs.declared.vault.Fault.TheVariants.{Memory, Store, Reopen}
use Rattle.vault_store.specs.declared.vault.Vault.{Vault}

-- the tables of a vault
abbrev pub tables_of : {T : Type 0} → Vault T → T
tables_of vault = vault.tables

-- the store failed once
abbrev pub is_broken : {T : Type 0} → Vault T → Bool
is_broken vault = vault.broken

-- the tables hold this vault, and it is sound
abbrev pub Contains : {T : Type 0} → (T → Content → Type 0) → Vault T → Content → Type 0
Contains holds vault V = holds vault.tables V × Sound V

-- on a disk that is honest, this holds of each vault that was contained before
abbrev pub OfContained : {T : Type 0} → Ghosts T → Vault T → Vault T → (Content → Type 0) → Type 0
OfContained g old new Holds = g.is_honest new.tables → (V : Content) → Contains g.holds old V → Holds V

-- the reply is that to the command, and the vault after it is contained so
abbrev pub RepliesTo : Command → Content → (Content → Type 0) → Reply → Type 0
RepliesTo c V contained it = (it ≡ reply V c) × contained (after V c)

-- after 21 and 22 the vault is broken, after all else it isn't
abbrev pub breaks : {X : Type 0} → Result X Fault → Bool
breaks (Ok x) = false
breaks (Err Memory) = false
breaks (Err Store) = true
breaks (Err Reopen) = true

-- the fault of a vault by that of its tables
abbrev pub tables_fault : TablesFault → Fault
tables_fault tables.Memory = Memory
tables_fault tables.Store = Store

-- whether the store failed
abbrev pub is_store : TablesFault → Bool
is_store tables.Memory = false
is_store tables.Store = true

-- the tables fail with 21, and with no other answer
abbrev pub FailsBy : {X : Type 0} → Result X Fault → Bool → Bool → Type 0
FailsBy (Ok x) before now = now ≡ before
FailsBy (Err Memory) before now = now ≡ before
FailsBy (Err Store) before now = now ≡ true
FailsBy (Err Reopen) before now = now ≡ before

-- the refusal that a fault is
abbrev pub refusal_of : Fault → Refusal
refusal_of Memory = refusal.CommandMemory
refusal_of Store = refusal.CommandStore
refusal_of Reopen = refusal.Reopen

-- over tables that are never refused memory for what adds nothing it isn't refused, and over tables
-- that never fail it doesn't fail
abbrev pub IsAllowedFault : {X : Type 0} → Bool → Bool → Result X Fault → Type 0
IsAllowedFault may_refuse may_fail (Ok x) = Unit {0}
IsAllowedFault may_refuse may_fail (Err Memory) = ¬ (may_refuse ≡ false)
IsAllowedFault may_refuse may_fail (Err Store) = ¬ (may_fail ≡ false)
IsAllowedFault may_refuse may_fail (Err Reopen) = ⊥
