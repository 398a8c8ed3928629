-- What a call leaves that only looks up: of tables, and of a vault over them.
use Rattle.std.specs.Prelude.{◌≡◌, ◌↔◌, true, false, Result, Err, IfOk}
use Rattle.vault_core.specs.Sound.{Sound}
use Rattle.vault_core.specs.Vault.{Vault as Content}
use Rattle.vault_store.specs.Applied.{Contains, FailsBy, breaks, is_broken, tables_of}
use Rattle.vault_store.specs.Left.{LeavesBy}
use Rattle.vault_store.specs.Reads.{FailsWith, IsAllowed, Keeps}
use Rattle.vault_store.specs.declared.tables.Tables.{Ghosts}
use Rattle.vault_store.specs.declared.tables.TablesFault.{TablesFault}
use Rattle.vault_store.specs.declared.vault.Fault.{Fault}
use Rattle.vault_store.specs.declared.vault.Fault.TheVariants.{Memory, Store, Reopen}
use Rattle.vault_store.specs.declared.vault.Vault.{Vault}

module _ {T : Type 0} (g : Ghosts T) where
  -- tables are read, and what is found is so of each sound vault that they hold
  pub record LooksUp {X : Type 0} (old new : T) (result : Result X TablesFault) (Is : Content → X → Type 0)
      : Type 0 where
    -- a disk that is honest after the call was so before it
    pub disk_honest : g.is_honest new → g.is_honest old
    pub told : g.is_honest new → IfOk result (λ found. (V : Content) → g.holds old V → Sound V → Is V found)
    -- unless the store failed, the tables hold what they held
    pub kept : Keeps result (g.holds old) (g.holds new)
    -- a crash leaves what they held, and nothing else
    pub crash : g.is_honest new → (V : Content) → g.holds old V → g.leaves new V V
    pub failing : FailsWith result (g.has_failed old) (g.has_failed new)
    pub allowed : IsAllowed g.may_refuse g.may_fail result

  -- a disk that is honest after the call was so before it
  abbrev pub WasHonest : Vault T → Vault T → Type 0
  WasHonest old new = g.is_honest (tables_of new) → g.is_honest (tables_of old)

  -- how a call of a vault fails
  pub record Fails {X : Type 0} (old new : Vault T) (result : Result X Fault) : Type 0 where
    -- a vault that is broken already says so, and no other does
    pub reopen : (result ≡ Err Reopen) ↔ (is_broken old ≡ true)
    pub unchanged : result ≡ Err Reopen → tables_of new ≡ tables_of old
    -- the vault is broken after Store and Reopen, and after no other answer
    pub broken : is_broken new ≡ breaks result
    -- with a Store fault the tables have failed; with any other answer that stays as it was
    pub failing : FailsBy result (g.has_failed (tables_of old)) (g.has_failed (tables_of new))

  -- a vault is listed, and what is listed is so of what it contains, which stays
  pub record Lists {X : Type 0} (old new : Vault T) (result : Result X Fault) (Is : Content → X → Type 0)
      : Type 0 where
    pub disk_honest : WasHonest old new
    pub told : g.is_honest (tables_of new)
        → IfOk result (λ found. (V : Content) → Contains g.holds old V
        → Is V found × Contains g.holds new V)
    -- want of memory changes nothing
    pub memory : result ≡ Err Memory → (V : Content) → Contains g.holds old V → Contains g.holds new V
    pub fails : Fails old new result
    -- a crash leaves what it contained, and nothing else
    pub crash : g.is_honest (tables_of new) → (V : Content) → Contains g.holds old V
        → LeavesBy result (g.leaves (tables_of new)) V V
    -- tables that can't fail don't
    pub infallible : g.may_fail ≡ false → ¬ (result ≡ Err Store)
