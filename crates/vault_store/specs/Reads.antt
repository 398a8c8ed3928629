-- What a call of the tables leaves.
use Rattle.std.specs.Prelude.{◌≡◌, Bool, true, false, Result, Ok, Err}
use Rattle.vault_core.specs.Vault.{Vault}
use Rattle.vault_store.specs.declared.tables.TablesFault.{TablesFault}
use Rattle.vault_store.specs.declared.tables.TablesFault.TheVariants.{Memory, Store}

-- each vault that the tables held before they hold still
abbrev pub StillHolds : (Vault → Type 0) → (Vault → Type 0) → Type 0
StillHolds before now = (V : Vault) → before V → now V

-- a read keeps what the tables hold, with Ok and after want of memory
abbrev pub Keeps : {X : Type 0} → Result X TablesFault → (Vault → Type 0) → (Vault → Type 0) → Type 0
Keeps (Ok x) before now = StillHolds before now
Keeps (Err Memory) before now = StillHolds before now
Keeps (Err Store) before now = Unit {0}

-- want of memory keeps what the tables hold
abbrev pub KeepsOnMemory : {X : Type 0} → Result X TablesFault → (Vault → Type 0) → (Vault → Type 0) → Type 0
KeepsOnMemory (Ok x) before now = Unit {0}
KeepsOnMemory (Err Memory) before now = StillHolds before now
KeepsOnMemory (Err Store) before now = Unit {0}

-- tables that are never refused memory for what adds nothing aren't refused, and tables that never
-- fail don't fail
abbrev pub IsAllowed : {X : Type 0} → Bool → Bool → Result X TablesFault → Type 0
IsAllowed may_refuse may_fail (Ok x) = Unit {0}
IsAllowed may_refuse may_fail (Err Memory) = ¬ (may_refuse ≡ false)
IsAllowed may_refuse may_fail (Err Store) = ¬ (may_fail ≡ false)

-- tables that can't fail give no Store fault
abbrev pub FailsOnlyIf : {X : Type 0} → Bool → Result X TablesFault → Type 0
FailsOnlyIf may_fail result = may_fail ≡ false → ¬ (result ≡ Err Store)

-- the tables fail with the first call that is answered a Store fault, and with no other
abbrev pub FailsWith : {X : Type 0} → Result X TablesFault → Bool → Bool → Type 0
FailsWith (Ok x) before now = now ≡ before
FailsWith (Err Memory) before now = now ≡ before
FailsWith (Err Store) before now = now ≡ true
