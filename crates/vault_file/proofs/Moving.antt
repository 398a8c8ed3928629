-- What a migration comes to over files.
use Rattle.std.proofs.Common.{◌≡◌, ◌≢◌, ◌≤◌, inl, inr, ap, arith, None, ℕ, ℤ}
use Rattle.std.proofs.Math.Logic.{∥∥₁_elim, ∥∥₁_map}
use Rattle.sqlite.specs.Files.{file_state}
use Rattle.sqlite.specs.Held.{Held}
use Rattle.sqlite.specs.State.{HasCleanDisk}
use Rattle.sqlite.specs.Tree.{Trees}
use Rattle.sqlite.specs.View.{IsClean, doubt}
use Rattle.sqlite_disk.specs.declared.Disk.{Ghosts}
use Rattle.sqlite_store.specs.FileStore.{view}
use Rattle.sqlite_store.specs.declared.store.FileStore.{FileStore}
use Rattle.sqlite_wal.specs.Recovery.{Image}
use Rattle.sql_tables.specs.Schema.{no_schema}
use Rattle.vault_core.specs.Sound.{Sound}
use Rattle.vault_core.specs.Vault.{Vault, empty_vault}
use Rattle.vault_file.proofs.Opening.{found_in as held_there, no_verdict, same_fault}
use Rattle.vault_file.specs.Closed.{ReopensAs}
use Rattle.vault_file.specs.Found.{IsFoundIn, IsNoVerdict}
use Rattle.vault_file.specs.Moved.{LeavesOld, MovesAs, MovesFrom, StaysOld, TellsOld}
use Rattle.vault_file.specs.declared.fault.NotOpened.{NotOpened}
use Rattle.vault_file.specs.declared.fault.NotOpened.TheVariants.{Fault}
use Rattle.vault_file.proofs.Reopened.{in_again, some_again, sound_again}
use Rattle.vault_migrate.specs.Moved.{FindsBroken, FindsVersion}
use Rattle.vault_migrate.specs.Moved.{HoldsSoundIn, IsKnown, IsMovable, IsOlder, IsSoundWhereFull, LeavesIn}
use Rattle.vault_migrate.specs.Moved.{LeavesSome}
use Rattle.vault_file.specs.Reopened.{KeepsIn, KeepsSome}
use Rattle.vault_recover.specs.Crashed.{AreBlank, HoldsEither, HoldsFirst, IsOpenOf, KeepsEither, KeepsFirst}
use Rattle.vault_schema.proofs.Newest.{held_by_newest, held_in_newest, ours_in_newest}
use Rattle.vault_schema.specs.Holds.{HoldsIn}
use Rattle.vault_schema.specs.Stands.{newest}
use Rattle.vault_schema.specs.declared.version.Version.{Version}
use Rattle.vault_verdict.specs.Opened.{IsFit, IsNoRefusal}
use Rattle.vault_verdict.specs.ReadAs.{IsFullIn}
use Rattle.sqlite.specs.Effect.{Database}
use Rattle.vault_verdict.specs.declared.fault.OpenFault.{OpenFault}
use Rattle.vault_verdict.specs.declared.fault.OpenFault.TheVariants.{Store, Damaged, WrongSchema}
use Rattle.vault_schema.specs.Holds.{Holds}
use Rattle.vault_schema.specs.Making.{IsReady}

module _ {D : Type 0} {g : Ghosts D} {image : Image} {first : Held (FileStore D g)}
    (last : Held (FileStore D g)) (found : HasCleanDisk (file_state first) → IsOpenOf image first)
    (unlimited : (file_state first).step_limit ≡ None)
    (quiet : doubt (file_state first).is_clean ≤ doubt (file_state last).is_clean) where
  -- a disk that is clean after a migration was clean before it
  was_clean : HasCleanDisk (file_state last) → HasCleanDisk (file_state first)
  was_clean clean = omega (arith, quiet, clean)

  found_in : HasCleanDisk (file_state last) → (v : Version) (V : Vault) → KeepsIn v image V
      → HoldsIn v V (file_state first)
  found_in clean = in_again image first (found (was_clean clean)) unlimited

  -- a migration that is done
  module _ (moved : HasCleanDisk (file_state last)
      → (v : Version) (V : Vault) → HoldsIn v V (file_state first) → HoldsIn newest V (file_state last)) where
    pub moves_on : HasCleanDisk (file_state last) → (v : Version) (V : Vault) → HoldsIn v V (file_state first)
        → Holds (file_state last) V
    moves_on clean v V held = held_by_newest V (file_state last) (moved clean v V held)

    pub moves_from : (HasCleanDisk (file_state last) → IsReady (file_state first)
        → (file_state first).now.schema ≡ no_schema
        → Holds (file_state last) empty_vault)
        → (HasCleanDisk (file_state last) → (v : Version) → IsOlder v → IsFullIn v (file_state first).now
        → HoldsSoundIn newest (file_state last))
        → (HasCleanDisk (file_state first) → (V W : Vault) → KeepsEither image V W
        → HoldsEither (file_state first) V W)
        → (HasCleanDisk (file_state first) → (before : Trees) → AreBlank before → KeepsFirst image before
        → HoldsFirst (file_state first) before)
        → IsKnown (file_state first).now
        → (HasCleanDisk (file_state last) → IsSoundWhereFull (file_state first).now) → MovesFrom image last
    moves_from blank sound either one known stood = record {
      first = first;
      found = found;
      moved = λ clean v V keeps. moves_on clean v V (found_in clean v V keeps);
      stopped = λ clean V keeps.
          ∥∥₁_map (some_again image first (found (was_clean clean)) unlimited V keeps)
          (λ held. moves_on clean held.0 V held.1);
      either = λ clean V W keeps.
          ∥∥₁_map (either (was_clean clean) V W keeps) (λ held. elim held [
            | inl is ↦ inl (moves_on clean newest V (held_in_newest V (file_state first) is))
            | inr is ↦ inr (moves_on clean newest W (held_in_newest W (file_state first) is))
          ]);
      blank = λ clean before none keeps.
          ∥∥₁_map (one (was_clean clean) before none keeps) (λ held. elim held [
            | inl is ↦ blank clean is.ready is.schema
            | inr ours ↦ moves_on clean newest empty_vault
                (held_in_newest empty_vault (file_state first) ours)
          ]);
      sound = sound;
      stood = λ clean. (
        (file_state first).now,
        held_there found (was_clean clean),
        record {
          known = known;
          sound = λ v full.
              let it = stood clean v full in (
                it,
                moves_on clean v it.vault
                    (sound_again image first (found (was_clean clean)) unlimited v it),
              );
        },
      );
    }

  -- a sound vault that is held in a version can be moved
  stands_in : (v : Version) (V : Vault) → Sound V → HoldsIn v V (file_state first)
      → IsMovable (file_state first).now
  stands_in v V sound held = inl (
    v,
    record {
      schema = held.is.schema;
      vault = V;
      sound = sound;
      stand = held.is.stand;
    },
  )

  -- and one that is refused
  module _ (e : OpenFault) where
    -- it tells what was found in the bytes
    pub tells_old : HasCleanDisk (file_state last)
        → ((rule : ℕ) → e ≡ Damaged rule → FindsBroken (file_state first).now rule)
        → ((n : ℤ) → e ≡ WrongSchema n → FindsVersion (file_state first).now n) → TellsOld image (Fault e)
    tells_old clean damaged wrong =
        let db : Database = (file_state first).now in
        let held : IsFoundIn image db = held_there found (was_clean clean) in
        record {
          damaged = λ rule same. (db, held, damaged rule (same_fault e (Damaged rule) same));
          wrong = λ n same. (db, held, wrong n (same_fault e (WrongSchema n) same));
        }

    pub leaves_old : (HasCleanDisk (file_state last)
        → (v : Version) (V : Vault) → HoldsIn v V (file_state first) → LeavesSome V (file_state last))
        → (HasCleanDisk (file_state last) → e ≢ Store
        → (v : Version) (V : Vault) → HoldsIn v V (file_state first) → LeavesIn v V (file_state last))
        → LeavesOld image (Fault e) last
    leaves_old some stays = record {
      some = λ clean v V keeps. some clean v V (found_in clean v V keeps);
      stays = λ clean other v V keeps.
          stays clean (λ same. other (ap (λ fault. Fault fault) same)) v V (found_in clean v V keeps);
    }

    pub never_in : (HasCleanDisk (file_state last) → IsMovable (file_state first).now → IsNoRefusal e)
        → HasCleanDisk (file_state last) → (v : Version) (V : Vault) → Sound V → KeepsIn v image V
        → IsNoVerdict (Fault e)
    never_in never clean v V sound keeps =
        no_verdict e (never clean (stands_in v V sound (found_in clean v V keeps)))

    -- so of a vault in some version: of a truncation only two negations are made
    pub never_some : (HasCleanDisk (file_state last) → IsMovable (file_state first).now → IsNoRefusal e)
        → HasCleanDisk (file_state last) → (V : Vault) → Sound V → KeepsSome image V → IsNoVerdict (Fault e)
    never_some never clean V sound keeps =
        let some = some_again image first (found (was_clean clean)) unlimited V keeps in
        no_verdict e (
          λ n same. ∥∥₁_elim some (λ a b. absurd a)
              (λ held. (never clean (stands_in held.0 V sound held.1)).0 n same),
          λ rule same. ∥∥₁_elim some (λ a b. absurd a)
              (λ held. (never clean (stands_in held.0 V sound held.1)).1 rule same),
        )

-- a database that is fit can be moved
pub movable : (db : Database) → IsFit db → IsMovable db
movable db fit = elim fit [ inl it ↦ inl (newest, it) | inr blank ↦ inr blank ]

-- the connection is closed after a migration that is done
pub moves_as : {D : Type 0} {g : Ghosts D} (image : Image) (conn : Held (FileStore D g))
    (left : FileStore D g) → MovesFrom image conn → (IsClean (view left) → HasCleanDisk (file_state conn))
    → (IsClean (view left) → ReopensAs (file_state conn) left) → MovesAs image left
moves_as image conn left it was after = record {
  moved = λ clean v V keeps. (after clean).kept V (it.moved (was clean) v V keeps);
  newest = λ clean V keeps. (after clean).kept V
      (it.moved (was clean) newest V (λ found finds. ours_in_newest V found (keeps found finds)));
  stopped = λ clean V keeps bytes may found finds. ∥∥₁_map (it.stopped (was clean) V keeps)
      (λ held. (after clean).kept V held bytes may found finds);
  either = λ clean V W keeps bytes may found finds.
      ∥∥₁_map (it.either (was clean) V W keeps) (λ held. elim held [
        | inl is ↦ inl ((after clean).kept V is bytes may found finds)
        | inr is ↦ inr ((after clean).kept W is bytes may found finds)
      ]);
  blank = λ clean before none keeps bytes may found finds.
      ∥∥₁_map (it.blank (was clean) before none keeps)
      (λ held. (after clean).kept empty_vault held bytes may found finds);
  stood = λ clean.
      let db = it.stood (was clean) in (
        db.0,
        db.1,
        record {
          known = db.2.known;
          sound = λ v full.
              let stands = db.2.sound v full in (stands.0, (after clean).kept stands.0.vault stands.1);
        },
      );
}

-- and after one that is refused
pub stays_old : {D : Type 0} {g : Ghosts D} (image : Image) (conn : Held (FileStore D g))
    (left : FileStore D g) (why : NotOpened) → LeavesOld image why conn
    → (IsClean (view left) → HasCleanDisk (file_state conn))
    → (IsClean (view left) → ReopensAs (file_state conn) left) → StaysOld image left why
stays_old image conn left why old was after = record {
  stays = λ clean other v V keeps. (after clean).same v V (old.stays (was clean) other v V keeps);
  some = λ clean v V keeps. (after clean).some V (old.some (was clean) v V keeps);
}
