-- What an open and a check come to.
use Rattle.std.proofs.Common.{◌≡◌, inl, inr, ◌≤◌, ℕ, ℤ, None, arith, refl, sym, ap, subst, ◌∙◌}
use Rattle.std.proofs.Math.Logic.{∥∥₁_elim, ∥∥₁_map}
use Rattle.sqlite.specs.Effect.{Database, IsDatabase}
use Rattle.sqlite.specs.Files.{AreFoundIn, file_state}
use Rattle.sqlite.specs.Held.{Held}
use Rattle.sqlite.specs.State.{State, HasCleanDisk, IsUnchanged}
use Rattle.sqlite.specs.View.{doubt}
use Rattle.sqlite.specs.Tree.{Trees}
use Rattle.sqlite_disk.specs.declared.Disk.{Ghosts}
use Rattle.sqlite_store.specs.declared.store.FileStore.{FileStore}
use Rattle.sqlite_wal.specs.Recovery.{Image}
use Rattle.vault_core.proofs.Empty.{sound-empty}
use Rattle.vault_core.specs.Sound.{Sound}
use Rattle.vault_core.specs.Vault.{Vault, empty_vault}
use Rattle.vault_file.specs.Found.{IsFoundIn, IsNoVerdict, OpensFrom, SparesStopped, TellsFound}
use Rattle.vault_file.specs.declared.fault.NotOpened.{NotOpened}
use Rattle.vault_file.specs.declared.fault.NotOpened.TheVariants.{Refused, Fault}
use Rattle.vault_recover.proofs.Reopened.{held_again}
use Rattle.vault_recover.specs.Crashed.{AreBlank, HoldsEither, HoldsFirst, IsOpenOf}
use Rattle.vault_recover.specs.Crashed.{Keeps, KeepsEither, KeepsFirst}
use Rattle.vault_verdict.specs.Opened.{IsFit, IsLeastBroken, IsNoRefusal, IsWrong, Opens, StandsSound}
use Rattle.vault_verdict.specs.Reading.{IsFull}
use Rattle.vault_verdict.specs.declared.fault.OpenFault.{OpenFault}
use Rattle.vault_verdict.specs.declared.fault.OpenFault.TheVariants.{WrongSchema, Damaged, Memory, Store}
use Rattle.vault_file.proofs.Reopened.{some_again}
use Rattle.vault_migrate.proofs.Moving.{never_blank}
use Rattle.vault_schema.proofs.Newest.{held_by_newest, held_in_newest, one_version}
use Rattle.vault_schema.specs.declared.version.Version.{Version}
use Rattle.vault_schema.specs.Stands.{newest}
use Rattle.vault_verdict.proofs.Judged.{full_in}
use Rattle.vault_schema.specs.Holds.{Holds, HoldsIn}
use Rattle.sql_tables.specs.Schema.{no_schema}
use Rattle.vault_schema.specs.Stands.{Stands}

-- a refusal that is neither 30 nor 31
pub no_verdict : (e : OpenFault) → IsNoRefusal e → IsNoVerdict (Fault e)
no_verdict (WrongSchema version) neither = absurd (neither.0 version refl)
no_verdict (Damaged rule) neither = absurd (neither.1 rule refl)
no_verdict Memory neither = (λ same. omega (arith, same), λ same. omega (arith, same))
no_verdict Store neither = (λ same. omega (arith, same), λ same. omega (arith, same))

fault_in : NotOpened → OpenFault
fault_in (Refused cause) = Memory
fault_in (Fault fault) = fault

pub same_fault : (e f : OpenFault) → Fault e ≡ Fault f → e ≡ f
unfolding fault_in
same_fault e f same = ap fault_in same

-- what holds a sound vault stands for it
stands_sound : (s : State) (V : Vault) → Sound V → Holds s V → StandsSound s.now
stands_sound s V sound held = record {
  schema = held.schema;
  vault = V;
  sound = sound;
  stand =
      (held_in_newest V s held).is.stand;
}

-- what isn't changed holds the vault still
pub still_held : (old new : State) → IsUnchanged old new → new.step_limit ≡ old.step_limit
    → (V : Vault) → Holds old V → Holds new V
still_held old new same limit V held = record {
  is_open = same.0.is_open;
  autocommit = same.0.mode ∙ held.autocommit;
  unlimited = limit ∙ held.unlimited;
  schema = ap (λ (d : Database). d.schema) same.0.now_is ∙ held.schema;
  sound = subst IsDatabase (sym same.0.now_is) held.sound;
  settled = same.0.now_is ∙ held.settled ∙ sym same.0.committed_is;
  stands = subst (λ (d : Database). Stands d.trees V) (sym same.0.now_is) held.stands;
}

module _ {D : Type 0} {g : Ghosts D} {image : Image} {first : Held (FileStore D g)}
    (found : HasCleanDisk (file_state first) → IsOpenOf image first) where
  pub found_in : HasCleanDisk (file_state first) → IsFoundIn image (file_state first).now
  found_in clean =
      let it = found clean in
      let same : (file_state first).committed.trees ≡ (file_state first).now.trees =
      ap (λ (d : Database). d.trees) (sym it.opened.0.clean) in
      record {
        is = (it.opened.1 it.opened.0.is_open).0;
        holds = λ db held. sym same ∙ it.found.holds db held;
        reads = subst (AreFoundIn image) same it.found.reads;
      }

  module _ (again : HasCleanDisk (file_state first)
      → (V : Vault) → Keeps image V → Holds (file_state first) V) where
    -- an open that succeeds
    pub opens_from : (conn : Held (FileStore D g)) → (file_state first).step_limit ≡ None
        → (HasCleanDisk (file_state first) → (V W : Vault) → KeepsEither image V W
        → HoldsEither (file_state first) V W)
        → (HasCleanDisk (file_state first) → (before : Trees) → AreBlank before → KeepsFirst image before
        → HoldsFirst (file_state first) before)
        → (HasCleanDisk (file_state conn) → Opens (file_state first) (file_state conn))
        → doubt (file_state first).is_clean ≤ doubt (file_state conn).is_clean → OpensFrom image conn
    opens_from conn unlimited either one opens quiet =
        let was : HasCleanDisk (file_state conn) → HasCleanDisk (file_state first) =
        λ clean. omega (arith, quiet, clean) in
        let on : HasCleanDisk (file_state conn) → (V : Vault) → Sound V → Holds (file_state first) V
        → Holds (file_state conn) V = λ clean V sound held.
        let ours = full_in newest (file_state first).now (stands_sound (file_state first) V sound held) in
        (opens clean).same ours V held.stands in
        record {
          first = first;
          found = found;
          opens = opens;
          clean = quiet;
          again = λ clean V sound keeps. on clean V sound (again (was clean) V keeps);
          either = λ clean V W sound other keeps.
              ∥∥₁_map (either (was clean) V W keeps) (λ held. elim held [
                | inl one ↦ inl (on clean V sound one)
                | inr one ↦ inr (on clean W other one)
              ]);
          empty = λ clean before blank keeps.
              ∥∥₁_map (one (was clean) before blank keeps) (λ held. elim held [
                | inl none ↦ (opens clean).blank none.ready.is_open none.schema
                | inr one ↦ on clean empty_vault sound-empty one
              ]);
          stands = λ clean V sound ours.
              on clean V sound (held_again image first (found (was clean)) unlimited V ours);
          some = λ clean V sound keeps.
              ∥∥₁_map (some_again image first (found (was clean)) unlimited V keeps) (λ held.
              elim (opens clean).whose [
                | inl none ↦ absurd (never_blank held.0 (sym held.1.is.schema ∙ none))
                | inr new ↦ on clean V sound (held_by_newest V (file_state first)
                    (subst (λ (v : Version). HoldsIn v V (file_state first))
                    (one_version held.0 newest (sym held.1.is.schema ∙ new)) held.1))
              ]);
        }

    -- An open or a check that fails with this fault. Where the disk is clean after it, and the fault is
    -- one of the schema or the rows, there were tables, so the disk was clean before it.
    module _ (last : Held (FileStore D g)) (e : OpenFault)
        (never : HasCleanDisk (file_state last) → IsFit (file_state first).now → IsNoRefusal e)
        (quiet : ((file_state first).now.schema ≡ no_schema → ⊥)
        → doubt (file_state first).is_clean ≤ doubt (file_state last).is_clean)
        (clean : HasCleanDisk (file_state last)) where
      was_clean : ((file_state first).now.schema ≡ no_schema → ⊥) → HasCleanDisk (file_state first)
      was_clean some = omega (arith, quiet some, clean)

      -- where there are tables, and they stand for a sound vault, it is neither of the two
      never_such : (((file_state first).now.schema ≡ no_schema → ⊥)
          → ∥ StandsSound (file_state first).now ∥₁) → IsNoVerdict (Fault e)
      never_such stands = no_verdict e (
        λ n same. ∥∥₁_elim (stands (λ blank. (never clean (inr blank)).0 n same)) (λ a b. absurd a)
            (λ it. (never clean (inl it)).0 n same),
        λ rule same. ∥∥₁_elim (stands (λ blank. (never clean (inr blank)).1 rule same)) (λ a b. absurd a)
            (λ it. (never clean (inl it)).1 rule same),
      )

      pub spares : (HasCleanDisk (file_state first) → (V W : Vault) → KeepsEither image V W
          → HoldsEither (file_state first) V W)
          → (HasCleanDisk (file_state first) → (before : Trees) → AreBlank before → KeepsFirst image before
          → HoldsFirst (file_state first) before) → SparesStopped image (Fault e)
      spares either empty = record {
        one = λ V sound keeps. never_such (λ some.
            ∣ stands_sound (file_state first) V sound (again (was_clean some) V keeps) ∣₁);
        either = λ V W sound other keeps. never_such (λ some.
            ∥∥₁_map (either (was_clean some) V W keeps) (λ held. elim held [
              | inl is ↦ stands_sound (file_state first) V sound is
              | inr is ↦ stands_sound (file_state first) W other is
            ]));
        first = λ before blank keeps. never_such (λ some.
            ∥∥₁_map (empty (was_clean some) before blank keeps) (λ held. elim held [
              | inl none ↦ absurd (some none.schema)
              | inr is ↦ stands_sound (file_state first) empty_vault sound-empty is
            ]));
      }

      found_wrong : (n : ℤ) → Fault e ≡ Fault (WrongSchema n) → IsFoundIn image (file_state first).now
      found_wrong n same =
          found_in (was_clean (λ blank. (never clean (inr blank)).0 n (same_fault e (WrongSchema n) same)))

      found_damaged : (rule : ℕ) → Fault e ≡ Fault (Damaged rule)
          → IsFoundIn image (file_state first).now
      found_damaged rule same =
          found_in (was_clean (λ blank. (never clean (inr blank)).1 rule (same_fault e (Damaged rule) same)))

      -- it tells what was found in the bytes
      pub tells_found : ((rule : ℕ) → e ≡ Damaged rule → IsFull (file_state first).now
          → IsLeastBroken (file_state first).now rule)
          → ((n : ℤ) → e ≡ WrongSchema n → IsWrong (file_state first).now n) → TellsFound image (Fault e)
      tells_found damaged wrong = record {
        damaged = λ rule same. (
          (file_state first).now,
          found_damaged rule same,
          damaged rule (same_fault e (Damaged rule) same),
        );
        wrong = λ n same.
            ((file_state first).now, found_wrong n same, wrong n (same_fault e (WrongSchema n) same));
      }
