-- What a crash leaves of an open that was refused.
use Rattle.std.proofs.Common.{◌≡◌, ◌≤◌, ◌∙◌, IsTrue, arith, inl, inr, None, refl, ap, subst, sym}
use Rattle.std.proofs.Math.Logic.{∥∥₁_elim, ∥∥₁_map, ∥∥₁_prop}
use Rattle.sqlite.specs.Effect.{Database}
use Rattle.sqlite.specs.Files.{file_state}
use Rattle.sqlite.specs.Held.{Held}
use Rattle.sqlite.specs.State.{State, HasCleanDisk}
use Rattle.sqlite.specs.Tree.{Trees}
use Rattle.sqlite.specs.View.{IsClean, doubt}
use Rattle.sqlite_catalog.specs.Listing.{IsSound}
use Rattle.sqlite_disk.specs.declared.Disk.{Ghosts}
use Rattle.sqlite_store.specs.FileStore.{view}
use Rattle.sqlite_store.specs.declared.store.FileStore.{FileStore}
use Rattle.sqlite_wal.specs.Recovery.{Image}
use Rattle.sql_tables.specs.Schema.{no_schema}
use Rattle.vault_core.specs.Vault.{Vault, empty_vault}
use Rattle.vault_file.specs.Closed.{ReopensAs}
use Rattle.vault_file.specs.Found.{LeavesFrom, Stays}
use Rattle.vault_recover.specs.Crashed.{AreBlank, HoldsEither, HoldsFirst, IsBlank, IsOpenOf}
use Rattle.vault_recover.specs.Crashed.{Keeps, KeepsEither, KeepsFirst}
use Rattle.vault_file.proofs.Reopened.{some_again}
use Rattle.vault_migrate.proofs.Moving.{left_in, never_blank}
use Rattle.vault_migrate.specs.Moved.{LeavesSome}
use Rattle.vault_schema.specs.Left.{left_after}
use Rattle.vault_schema.specs.Stands.{newest}
use Rattle.vault_schema.specs.Versioned.{HasVersion}
use Rattle.vault_schema.specs.declared.version.Version.{Version}
use Rattle.vault_verdict.proofs.InVersion.{has_version_in}
use Rattle.vault_verdict.specs.Opened.{LeavesFound}
use Rattle.vault_verdict.specs.Reading.{IsQuietWhere}
use Rattle.vault_schema.specs.Holds.{Holds, HoldsIn, LeavesEither, LeavesFirst}

-- what leaves one vault leaves one of two
first_of : (s : State) (V W : Vault) → LeavesEither s V V → LeavesEither s V W
first_of s V W one db left = elim (one db left) [ inl is ↦ inl is | inr is ↦ inl is ]

second_of : (s : State) (V W : Vault) → LeavesEither s W W → LeavesEither s V W
second_of s V W one db left = elim (one db left) [ inl is ↦ inr is | inr is ↦ inr is ]

-- what leaves the empty vault leaves that or what was there
empty_left : (s : State) (before : Trees) → LeavesEither s empty_vault empty_vault → LeavesFirst s before
empty_left s before one db left = elim (one db left) [ inl is ↦ inr is | inr is ↦ inr is ]

-- no schema at all has a version
no_version : HasVersion no_schema → ⊥
no_version it = let clash = it.tables in cc

module _ {D : Type 0} {g : Ghosts D} (image : Image) (first conn : Held (FileStore D g))
    (found : HasCleanDisk (file_state first) → IsOpenOf image first)
    (unlimited : (file_state first).step_limit ≡ None)
    (leaves : HasCleanDisk (file_state conn) → LeavesFound (file_state first) (file_state conn))
    (quiet : doubt (file_state first).is_clean ≤ doubt (file_state conn).is_clean) where
  was : HasCleanDisk (file_state conn) → HasCleanDisk (file_state first)
  was clean = omega (arith, quiet, clean)

  blank_found : HasCleanDisk (file_state first) → (file_state first).now.schema ≡ no_schema
      → AreBlank (file_state first).committed.trees
      × IsBlank (file_state first) (file_state first).committed.trees
  blank_found was none =
      let is = found was in
      let opened = is.opened.0 in
      let fine = (is.opened.1 opened.is_open).0 in
      let trees = ap (λ (d : Database). d.trees) opened.clean in (
        subst (IsSound no_schema) trees (subst (λ s. IsSound s (file_state first).now.trees) none fine),
        record {
          ready = record {
            is_open = opened.is_open;
            autocommit = opened.autocommit;
            unlimited = unlimited;
            settled = opened.clean;
          };
          schema = none;
          same = refl;
        },
      )

  blank_left : HasCleanDisk (file_state conn) → (before : Trees) → IsBlank (file_state first) before
      → LeavesFirst (file_state conn) before
  blank_left clean before blank =
      subst (LeavesFirst (file_state conn)) blank.same ((leaves clean).blank blank.ready blank.schema)

  pub leaves_from : (HasCleanDisk (file_state conn)
      → (v : Version) (V : Vault) → HoldsIn v V (file_state first) → LeavesSome V (file_state conn))
      → (HasCleanDisk (file_state first)
      → (V : Vault) → Keeps image V → Holds (file_state first) V)
      → (HasCleanDisk (file_state first) → (V W : Vault) → KeepsEither image V W
      → HoldsEither (file_state first) V W)
      → (HasCleanDisk (file_state first) → (before : Trees) → AreBlank before → KeepsFirst image before
      → HoldsFirst (file_state first) before) → LeavesFrom image conn
  leaves_from older again either one = record {
    first = first;
    found = found;
    clean = quiet;
    held = λ clean V keeps. (leaves clean).held V (again (was clean) V keeps);
    either = λ clean V W keeps. ∥∥₁_map (either (was clean) V W keeps) (λ held. elim held [
      | inl is ↦ first_of (file_state conn) V W ((leaves clean).held V is)
      | inr is ↦ second_of (file_state conn) V W ((leaves clean).held W is)
    ]);
    blank = λ clean none. let it = blank_found (was clean) none in (it.0, blank_left clean _ it.1);
    empty = λ clean before blank keeps. ∥∥₁_map (one (was clean) before blank keeps) (λ held. elim held [
      | inl is ↦ blank_left clean before is
      | inr is ↦ empty_left (file_state conn) before ((leaves clean).held empty_vault is)
    ]);
    some = λ clean V keeps. ∥∥₁_map (some_again image first (found (was clean)) unlimited V keeps)
        (λ held. older clean held.0 V held.1);
  }

-- where a crash leaves the last commit alone, and a call left no more of a database with a version
module _ (old new : State) (alone : IsTrue old.is_open → (db : Trees) → old.may_leave db
    → db ≡ old.committed.trees) where
  -- a vault in some version is left in it
  pub older_left : (¬ (old.now.schema ≡ no_schema) → IsQuietWhere (HasVersion old.now.schema) old new)
      → HasCleanDisk new → (v : Version) (V : Vault) → HoldsIn v V old → LeavesSome V new
  older_left quiet clean v V held db left = (
    v,
    left_in v V old new held (alone held.free.is_open)
        ((quiet (λ none. never_blank v (sym held.is.schema ∙ none))).left clean
        (has_version_in v old.now.schema held.is.schema)) db left,
  )

  -- and what is found there without one stays as it is
  pub found_left : IsQuietWhere (HasVersion old.now.schema) old new
      → (¬ (HasVersion old.now.schema) → (db : Trees) → new.may_leave db → old.may_leave db)
      → HasCleanDisk new → LeavesFound old new
  found_left quiet same clean = record {
    held = λ V h. left_after old new V h (alone h.is_open)
        (quiet.left clean (has_version_in newest old.now.schema h.schema));
    blank = λ ready none db left. inl (alone ready.is_open db
        (same (λ it. no_version (subst HasVersion none it)) db left));
  }

-- what a check leaves, which writes nothing
pub checked_leaves : {D : Type 0} {g : Ghosts D} (image : Image) (first conn : Held (FileStore D g))
    → (HasCleanDisk (file_state first) → IsOpenOf image first)
    → (file_state first).step_limit ≡ None
    → (IsTrue (file_state first).is_open → (db : Trees) → (file_state first).may_leave db
    → db ≡ (file_state first).committed.trees)
    → IsQuietWhere (HasVersion (file_state first).now.schema) (file_state first) (file_state conn)
    → (¬ (HasVersion (file_state first).now.schema) → conn ≡ first)
    → (HasCleanDisk (file_state first) → (V : Vault) → Keeps image V → Holds (file_state first) V)
    → (HasCleanDisk (file_state first) → (V W : Vault) → KeepsEither image V W
    → HoldsEither (file_state first) V W)
    → (HasCleanDisk (file_state first) → (before : Trees) → AreBlank before → KeepsFirst image before
    → HoldsFirst (file_state first) before) → LeavesFrom image conn
checked_leaves image first conn found unlimited alone quiet untouched again either one =
    leaves_from image first conn found unlimited
    (found_left (file_state first) (file_state conn) alone quiet
    (λ none db left. subst (λ c. (file_state c).may_leave db) (untouched none) left))
    quiet.clean
    (older_left (file_state first) (file_state conn) alone (λ some. quiet)) again either one

-- the connection is closed, and its files keep what a crash left
pub stays : {D : Type 0} {g : Ghosts D} (image : Image) (conn : Held (FileStore D g)) (left : FileStore D g)
    → LeavesFrom image conn → (IsClean (view left) → HasCleanDisk (file_state conn))
    → (IsClean (view left) → ReopensAs (file_state conn) left) → Stays image left
stays image conn left it was after = record {
  either = λ clean V W keeps bytes may found finds. ∥∥₁_elim (it.either (was clean) V W keeps) ∥∥₁_prop
      (λ leaves. (after clean).either V W leaves bytes may found finds);
  empty = λ clean before blank keeps bytes may found finds.
      ∥∥₁_elim (it.empty (was clean) before blank keeps) ∥∥₁_prop
      (λ leaves. (after clean).first before blank leaves bytes may found finds);
  some = λ clean V keeps bytes may found finds. ∥∥₁_elim (it.some (was clean) V keeps) ∥∥₁_prop
      (λ leaves. (after clean).some V leaves bytes may found finds);
}
