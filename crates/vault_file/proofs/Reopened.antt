-- What a migration that was stopped left is found again.
use Rattle.std.proofs.Common.{◌≡◌, ◌∙◌, IsTrue, None, sym, subst}
use Rattle.std.proofs.Math.Logic.{∥∥₁_elim, ∥∥₁_map}
use Rattle.sqlite.proofs.Theorems.{opens_again}
use Rattle.sqlite.specs.Files.{file_state}
use Rattle.sqlite.specs.Held.{Held}
use Rattle.sqlite.specs.Schema.{Schema}
use Rattle.sqlite.specs.Tree.{Trees}
use Rattle.sqlite_catalog.specs.Listing.{IsSound}
use Rattle.sqlite_disk.specs.declared.Disk.{Ghosts}
use Rattle.sqlite_store.specs.FileStore as files
use Rattle.sqlite_store.specs.declared.store.FileStore.{FileStore}
use Rattle.sqlite_trees.specs.Props.{Trees-set}
use Rattle.sqlite_wal.specs.Recovery.{Image}
use Rattle.vault_core.specs.Vault.{Vault}
use Rattle.vault_file.specs.Reopened.{HoldsSome, KeepsIn, KeepsSome, ReopensIn, ReopensSome}
use Rattle.vault_recover.proofs.Reopened.{fine, now_trees, one_schema, reopens_such}
use Rattle.vault_recover.specs.Crashed.{IsOpenOf, MayFind}
use Rattle.vault_schema.specs.Holds.{AreIn, HoldsIn}
use Rattle.vault_schema.specs.Stands.{lookups_of}
use Rattle.vault_schema.specs.Versions.{Stand, schema_of}
use Rattle.vault_schema.specs.declared.version.Version.{Version}
use Rattle.vault_steps.specs.Entries.{AreSome}
use Rattle.vault_verdict.specs.Opened.{StandsSoundIn}

-- where each state that a crash leaves stands for the vault in some version
pub reopens_some : {D : Type 0} {g : Ghosts D} (it : FileStore D g) → IsTrue (files.view it).is_numbered
    → (V : Vault) → ((db : Trees) → files.recovers it db → AreSome (lookups_of V) db) → ReopensSome it V
reopens_some it numbered V each =
    reopens_such it numbered (AreSome (lookups_of V))
    (λ db was. let found = each db was in (schema_of found.0, found.1.sound)) each

-- where a crash leaves these trees alone, whoever opens what it leaves finds them
pub reopens_only : {D : Type 0} {g : Ghosts D} (it : FileStore D g) → IsTrue (files.view it).is_numbered
    → (schema : Schema) (only : Trees) → IsSound schema only
    → ((db : Trees) → files.recovers it db → db ≡ only) → (left : Image)
    → (files.state it).may_leave left → (found : Trees) → MayFind left found → found ≡ only
reopens_only it numbered schema only sound alone left may found finds =
    ∥∥₁_elim (opens_again it numbered
    (λ db was. (schema, subst (IsSound schema) (sym (alone db was)) sound)) left may) (Trees-set _ _)
    (λ db. finds db.0 db.2 ∙ alone db.0 db.1)

-- in this version
pub reopens_in : {D : Type 0} {g : Ghosts D} (it : FileStore D g) → IsTrue (files.view it).is_numbered
    → (v : Version) (V : Vault) → ((db : Trees) → files.recovers it db → AreIn v V db) → ReopensIn v it V
reopens_in it numbered v V each =
    reopens_such it numbered (AreIn v V) (λ db was. (schema_of v, (each db was).sound)) each

module _ {D : Type 0} {g : Ghosts D} (image : Image) (c : Held (FileStore D g)) (is : IsOpenOf image c)
    (unlimited : (file_state c).step_limit ≡ None) where
  held_in : (v : Version) (V : Vault) → AreIn v V (file_state c).committed.trees → HoldsIn v V (file_state c)
  held_in v V a = record {
    free = record { is_open = is.opened.0.is_open; unlimited = unlimited };
    autocommit = is.opened.0.autocommit;
    settled = is.opened.0.clean;
    is = record {
      schema = one_schema image c is unlimited (schema_of v) a.sound;
      sound = fine image c is unlimited;
      stand = subst (λ (t : Trees). Stand v t (lookups_of V)) (sym (now_trees image c is unlimited)) a.stand;
    };
  }

  -- a database that stands for a sound vault in a version
  pub sound_again : (v : Version) (it : StandsSoundIn v (file_state c).now)
      → HoldsIn v it.vault (file_state c)
  sound_again v it = record {
    free = record { is_open = is.opened.0.is_open; unlimited = unlimited };
    autocommit = is.opened.0.autocommit;
    settled = is.opened.0.clean;
    is = record { schema = it.schema; sound = fine image c is unlimited; stand = it.stand };
  }

  -- files that keep the vault in a version
  pub in_again : (v : Version) (V : Vault) → KeepsIn v image V → HoldsIn v V (file_state c)
  in_again v V keeps = held_in v V (keeps _ is.found.holds)

  -- files that keep it in some version
  pub some_again : (V : Vault) → KeepsSome image V → HoldsSome (file_state c) V
  some_again V keeps = ∥∥₁_map (keeps _ is.found.holds) (λ found. (found.0, held_in found.0 V found.1))
