-- A task on the vault in files, said of the files.
use Rattle.std.proofs.Common.{◌≡◌, ◌↔◌, ◌⊎◌, ℕ, List, Bool, Option, Some, None, Result, Ok, Err, false}
use Rattle.std.proofs.Common.{◌≤◌, ap, arith, inl, inr, refl, subst, sym}
use Rattle.std.specs.Prelude.{ℤ, IfErr, IfOk, IfSome, IsErrAnd}
use Rattle.sqlite.specs.Files.{file_state}
use Rattle.sqlite.specs.Held.{Held}
use Rattle.sqlite.specs.State.{HasCleanDisk}
use Rattle.sqlite.specs.View.{IsClean, doubt}
use Rattle.sqlite_disk.specs.declared.Disk.{Ghosts}
use Rattle.sqlite_store.specs.FileStore.{view}
use Rattle.sqlite_store.specs.declared.store.FileStore.{FileStore}
use Rattle.sqlite_wal.specs.Recovery.{Image}
use Rattle.vault_core.specs.Sound.{Sound}
use Rattle.vault_core.specs.Vault.{Vault as Content, empty_vault}
use Rattle.vault_file.specs.Closed.{ReopensAs}
use Rattle.vault_file.specs.Found.{ChecksAs, MayFindNone, OpensFrom, RefusesRightly, Stays}
use Rattle.vault_file.specs.Paths.{Each}
use Rattle.vault_file.specs.Found.{StaysWhole}
use Rattle.vault_file.specs.Moved.{MovesAs, StaysUnmoved}
use Rattle.vault_verdict.specs.declared.fault.OpenFault.TheVariants.{Memory}
use Rattle.vault_file.specs.declared.fault.NotOpened.{NotOpened as FileFault}
use Rattle.vault_file.specs.declared.fault.NotOpened.TheVariants as file
use Rattle.vault_jobs.proofs.RefinedTasks.{refined}
use Rattle.vault_jobs.specs.Doing.{Does}
use Rattle.vault_jobs.specs.Streams.{Streams, seen_as}
use Rattle.vault_jobs.specs.declared.note.Note.{Note as TaskNote}
use Rattle.vault_jobs.specs.declared.stop.Stop.{Stop}
use Rattle.vault_jobs.specs.declared.task.Outcome.{Outcome}
use Rattle.vault_jobs.specs.declared.task.Outcome.TheVariants as outcome
use Rattle.vault_jobs.specs.declared.task.Task.{Task}
use Rattle.vault_jobs.specs.Outside.{Outside}
use Rattle.vault_recover.specs.Crashed.{Reopens, ReopensEither}
use Rattle.vault_schema.specs.Holds.{Holds, LeavesEither}
use Rattle.vault_store.specs.declared.vault.Vault.{Vault}
use Rattle.vault_verdict.specs.Sizes.{sizes_of}
use Rattle.vault_verdict.specs.declared.sizes.Sizes.{Sizes}
use Rattle.vault_app.specs.Files.{EndsOnFile, WorksOn, ending_for}
use Rattle.vault_app.specs.World.{World, outside_in}
use Rattle.vault_app.specs.Jobs.{IsChecked, IsMoved}
use Rattle.vault_app.specs.declared.ending.Ending.TheVariants.{NotOpened}
use Rattle.vault_engine.specs.Passing.{vault_passing}
use Rattle.vault_file.specs.Faults.{IfRefused, IsRefusal, IsRefusedBy}
use Rattle.vault_file.specs.Refused.{WhereDone, WhereLeft, WhereShut}
use Rattle.vault_recover.specs.declared.unopened.Unopened.{Unopened}
use Rattle.vault_store.specs.Applied.{is_broken}

-- it is 34, for this cause
pub refused_by : (Is : Unopened → Type 0) (why : FileFault) → IsRefusal why → IfRefused why Is
    → IsRefusedBy Is why
refused_by Is (file.Refused cause) is there = there
refused_by Is (file.Fault fault) is there = absurd is

module _ {D : Type 0} {g : Ghosts D} {T : Type 0} (conn_of : T → Held (FileStore D g))
    (failed : T → Bool) (Past : T → Content → Type 0) where
  -- what tables over a connection hold, on an honest disk, where this is so of them too
  abbrev pub held : T → Content → Type 0
  held t V =
      (failed t ≡ false)
      × (HasCleanDisk (file_state (conn_of t)) → Holds (file_state (conn_of t)) V × Past t V)

  pub works : (at : Outside) (Holding : Image → Type 0) (v v' : Vault T) (left : FileStore D g)
      (task : Task) (r : Result Outcome Stop) (it : Option TaskNote)
      (unread unsent : Type 0) (s : Streams)
      → Each Holding (λ image. OpensFrom image (conn_of v.tables)) → (failed v.tables ≡ false)
      × ((V : Content) → Past v.tables V)
      → (HasCleanDisk (file_state (conn_of v'.tables)) → HasCleanDisk (file_state (conn_of v.tables)))
      → (conn : Held (FileStore D g)) → conn ≡ conn_of v'.tables
      → doubt (file_state conn).is_clean ≤ doubt (view left).is_clean
      → (IsClean (view left) → ReopensAs (file_state conn) left)
      → Does at task (vault_passing (λ t. HasCleanDisk (file_state (conn_of t))) held
      (λ t V W. LeavesEither (file_state (conn_of t)) V W) v v') r it (seen_as unread unsent s)
      → WorksOn Holding left (λ p. Does at task p r it (seen_as unread unsent s))
  works at Holding v v' left task r it unread unsent s found fresh honest conn same no_less after
      does =
      let closed : IsClean (view left) → HasCleanDisk (file_state (conn_of v'.tables)) =
      λ clean. subst (λ h. HasCleanDisk (file_state h)) same (omega (arith, no_less, clean)) in
      let held_by : (V : Content) → Holds (file_state (conn_of v'.tables)) V → Holds (file_state conn) V =
      λ V. subst (λ h. Holds (file_state h) V) (sym same) in
      let left_by : (V W : Content) → LeavesEither (file_state (conn_of v'.tables)) V W
      → LeavesEither (file_state conn) V W = λ V W. subst (λ h. LeavesEither (file_state h) V W) (sym same) in
      record {
        opened = conn_of v.tables;
        broken = is_broken v';
        found = found;
        clean = λ clean. honest (closed clean);
        done = refined (IsClean (view left)) (λ V. Holds (file_state (conn_of v.tables)) V × Sound V)
            (λ V. Reopens left V × Sound V) (ReopensEither left)
            (vault_passing (λ t. HasCleanDisk (file_state (conn_of t))) held
            (λ t V W. LeavesEither (file_state (conn_of t)) V W) v v')
            (λ V clean was. (closed clean, ((fresh.0, λ _. (was.0, fresh.1 V)), was.1)))
            (λ clean V kept. (
              ((after clean).kept V (held_by V (kept.0.0.1 (closed clean)).0), kept.0.1),
              (after clean).either V V (left_by V V kept.1),
            ))
            (λ clean V W torn. (after clean).either V W (left_by V W torn))
            s at task r it unread unsent does;
      }

module _ {D : Type 0} {g : Ghosts D} (world : World) (path : List ℕ) (unread unsent : Type 0) (s : Streams)
  where
    -- only what is done is noted
    pub ended : (left : FileStore D g) (task : Task) (r : Result Outcome Stop) (o : Option TaskNote)
        → WorksOn (world.holds path) left (λ p. Does (outside_in world) task p r o
        (seen_as unread unsent s))
        → EndsOnFile world path (Some left) task (ending_for r o) (seen_as unread unsent s)
    ended left task (Ok outcome.Done) None works = works
    ended left task (Ok outcome.Done) (Some it) works = works
    ended left task (Ok (outcome.Refused n)) None works = works
    ended left task (Ok (outcome.Refused n)) (Some it) works =
        let is = works.done.noted.fits.1 in absurd (cc (is))
    ended left task (Ok outcome.SomeRefused) None works = works
    ended left task (Ok outcome.SomeRefused) (Some it) works =
        let is = works.done.noted.fits.1 in absurd (cc (is))
    ended left task (Err stop) None works = works
    ended left task (Err stop) (Some it) works = let is = works.done.noted.fits.1 in absurd (cc (is))

    pub refused_file : (left : Option (FileStore D g)) (task : Task) (why : FileFault)
        → IsRefusal why ↔ (left ≡ None) → IfRefused why (world.refuses path)
        → IfSome left (λ it. Each (world.holds path) (λ image. IsClean (view it) → RefusesRightly image why))
        → IfSome left (λ it. Each (world.holds path) (λ image. Stays image it))
        → IfSome left (λ it. Each (world.holds path) (λ image. ¬ MayFindNone image → StaysWhole image it))
        → unread → unsent → EndsOnFile world path left task (NotOpened why) (seen_as unread unsent s)
    refused_file None task why is there tells stays same calm silent =
        (why, refl, inl (refused_by (world.refuses path) why (is.1 refl) there), calm, silent)
    refused_file (Some left) task why is there tells stays same calm silent =
        (record { tells = tells; stays = stays; same = same }, calm, silent)

-- what holds, holds where there is no error
pub if_ok : {A E P : Type 0} (r : Result A E) → P → IfOk r (λ it. P)
if_ok (Ok it) p = p
if_ok (Err e) p = tt

module _ {D : Type 0} {g : Ghosts D} (world : World) (path : List ℕ) where
  -- what a check comes to
  pub checked : (left : Option (FileStore D g)) (r : Result Sizes FileFault)
      → (left ≡ None → IfOk r (λ sizes. (sizes ≡ sizes_of empty_vault) × world.lacks path))
      → IfErr r (λ why. (IsRefusal why → left ≡ None)
      × (left ≡ None → IsRefusal why ⊎ (why ≡ file.Fault Memory)))
      → IfErr r (λ why. IfRefused why (world.refuses path))
      → WhereDone (r, left) (world.holds path) ChecksAs
      → WhereLeft (r, left) (world.holds path) (λ image it why. IsClean (view it) → RefusesRightly image why)
      → WhereShut (r, left) (world.holds path) StaysWhole → WhereShut (r, left) (world.holds path) Stays
      → IsChecked world path left r
  checked None (Ok sizes) empty refused there sound tells same stays = empty refl
  checked None (Err why) empty refused there sound tells same stays =
      elim (refused.1 refl) [
        | inl is ↦ inl (refused_by (world.refuses path) why is there)
        | inr starved ↦ inr starved
      ]
  checked (Some left) (Ok sizes) empty refused there sound tells same stays =
      λ image at. (sound image at, same image at, stays image at)
  checked (Some left) (Err why) empty refused there sound tells same stays =
      λ image at. (tells image at, same image at, stays image at)

  -- and a migration
  pub moved : (left : Option (FileStore D g)) (r : Result ℤ FileFault)
      → (left ≡ None) ↔ IsErrAnd r IsRefusal → IfErr r (λ why. IfRefused why (world.refuses path))
      → WhereDone (r, left) (world.holds path) (λ image it _. MovesAs image it)
      → WhereLeft (r, left) (world.holds path) StaysUnmoved → IsMoved world path left r
  moved None (Ok version) refused there moves stays = absurd (refused.0 refl)
  moved None (Err why) refused there moves stays =
      refused_by (world.refuses path) why (refused.0 refl) there
  moved (Some left) (Ok version) refused there moves stays = moves
  moved (Some left) (Err why) refused there moves stays = stays
