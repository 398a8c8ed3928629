-- Files in which whoever opens them finds what was there, whatever that is.
use Rattle.std.proofs.Common.{◌≡◌, ◌⊎◌, ◌≤◌, Bool, true, false, IsTrue, Result, Ok, Err}
use Rattle.std.proofs.Common.{arith, inl, inr, refl, sym, ap, subst}
use Rattle.std.specs.Prelude.{Decides, pos}
use Rattle.sqlite.specs.Effect.{Database}
use Rattle.sqlite.specs.Files.{file_state}
use Rattle.sqlite.specs.Held.{Held}
use Rattle.sqlite.specs.Schema.{Schema}
use Rattle.sqlite.specs.State.{HasCleanDisk}
use Rattle.sqlite.specs.Tree.{Trees}
use Rattle.sqlite.specs.View.{IsClean, doubt}
use Rattle.sqlite_catalog.specs.Listing.{IsSound}
use Rattle.sqlite_disk.specs.declared.Disk.{Ghosts}
use Rattle.sqlite_store.specs.FileStore as files
use Rattle.sqlite_store.specs.declared.store.FileStore.{FileStore}
use Rattle.sqlite_wal.specs.Recovery.{Image}
use Rattle.sql_tables.specs.Schema.{no_schema}
use Rattle.sql_tables.specs.States.{LeavesNoMore}
use Rattle.vault_file.specs.Closed.{ReopensAs}
use Rattle.vault_file.specs.Found.{LeavesWhole, MayFindNone, StaysWhole}
use Rattle.vault_file.specs.Moved.{MayFindOlder}
use Rattle.vault_migrate.specs.Moved.{IsNoOlder}
use Rattle.vault_recover.specs.Crashed.{AreBlank, IsOpenOf, MayFind}
use Rattle.vault_schema.specs.Schema.{newest_schema}
use Rattle.vault_schema.specs.Stands.{newest}
use Rattle.vault_schema.specs.Versioned.{HasVersion}
use Rattle.vault_schema.specs.Versions.{schema_of}
use Rattle.vault_verdict.proofs.InVersion.{has_version_in}
use Rattle.vault_verdict.specs.Names.{IsForeign, IsMixed, IsOf, vault_names}
use Rattle.vault_verdict.specs.Reading.{IsQuietWhere}
use Rattle.vault_verdict.specs.declared.fault.OpenFault.{OpenFault}
use Rattle.vault_verdict.specs.declared.fault.OpenFault.TheVariants.{WrongSchema, Store}
use Rattle.vault_verdict.specs.declared.owners.Holder.{Holder}
use Rattle.vault_verdict.specs.declared.owners.Holder.TheVariants as holder

-- the fault of a result, or this one
fault_of : {V E : Type 0} → Result V E → E → E
fault_of (Ok v) other = other
fault_of (Err e) other = e

-- what is told by a test holds or doesn't
decided : (told : Bool) (P : Type 0) → Decides told P → P ⊎ ¬ P
decided true P is = inl (is.0 refl)
decided false P is = inr (λ holds. let clash : false ≡ true = is.1 holds in cc (clash))

-- where the tables are no other program's there is none, or they are a vault's
pub whose_of : (h : Holder) (s : Schema) → IsOf h s → (IsForeign s → ⊥)
    → (s ≡ no_schema) ⊎ (s ≡ newest_schema)
whose_of holder.Nobody s is other = inl is
whose_of holder.Vault s is other = inr is
whose_of holder.Mixed s is other = absurd (other is.0)
whose_of holder.Other s is other = absurd (other is.0)

module _ {D : Type 0} {g : Ghosts D} where
  -- a call that leaves no more than its open found
  pub leaves_whole : (image : Image) (first conn : Held (FileStore D g))
      → (HasCleanDisk (file_state first) → IsOpenOf image first)
      → (IsTrue (file_state first).is_open → (db : Trees) → (file_state first).may_leave db
      → db ≡ (file_state first).committed.trees)
      → doubt (file_state first).is_clean ≤ doubt (file_state conn).is_clean
      → (HasCleanDisk (file_state conn) → LeavesNoMore (file_state first) (file_state conn))
      → LeavesWhole image conn
  leaves_whole image first conn found alone quiet less clean =
      let it : IsOpenOf image first = found (omega (arith, quiet, clean)) in (
        (file_state first).now.schema,
        (file_state first).committed.trees,
        subst (IsSound (file_state first).now.schema) (ap (λ (d : Database). d.trees) it.opened.0.clean)
            (it.opened.1 it.opened.0.is_open).0,
        it.found.holds,
        λ db left. alone it.opened.0.is_open db (less clean db left),
      )

  -- the connection is closed
  pub stays_whole : (image : Image) (conn : Held (FileStore D g)) (left : FileStore D g)
      → LeavesWhole image conn → (IsClean (files.view left) → HasCleanDisk (file_state conn))
      → (IsClean (files.view left) → ReopensAs (file_state conn) left) → StaysWhole image left
  stays_whole image conn left whole was after clean next may found finds =
      let (schema, only, sound, held, alone) = whole (was clean) in
      subst (MayFind image) (sym ((after clean).only schema only sound alone next may found finds)) held

  -- where there is a table, the open found one
  pub some_there : (image : Image) (first : Held (FileStore D g))
      → (HasCleanDisk (file_state first) → IsOpenOf image first) → ¬ MayFindNone image
      → HasCleanDisk (file_state first) → ¬ ((file_state first).now.schema ≡ no_schema)
  some_there image first found some clean none =
      let it : IsOpenOf image first = found clean in
      some (
        (file_state first).committed.trees,
        subst (λ (d : Trees). AreBlank d) (ap (λ (d : Database). d.trees) it.opened.0.clean)
            (subst (λ (s : Schema). IsSound s (file_state first).now.trees) none
            (it.opened.1 it.opened.0.is_open).0),
        it.found.holds,
      )

  -- where no older version's tables are there, the open found none
  pub none_older : (image : Image) (first : Held (FileStore D g))
      → (HasCleanDisk (file_state first) → IsOpenOf image first) → ¬ MayFindOlder image
      → HasCleanDisk (file_state first) → IsNoOlder (file_state first).now
  none_older image first found none clean v older schema =
      let it : IsOpenOf image first = found clean in
      none (
        v,
        (file_state first).committed.trees,
        older,
        subst (λ (d : Trees). IsSound (schema_of v) d) (ap (λ (d : Database). d.trees) it.opened.0.clean)
            (subst (λ (s : Schema). IsSound s (file_state first).now.trees) schema
            (it.opened.1 it.opened.0.is_open).0),
        it.found.holds,
      )

  -- a refusal hands back this connection
  abbrev handed : (V : Type 0) → OpenFault → Held (FileStore D g)
      → Result V (OpenFault × Held (FileStore D g))
  handed V f c = Err (f, c)

  module _ (first conn : Held (FileStore D g)) where
    -- the same connection leaves the same
    same_less : conn ≡ first → LeavesNoMore (file_state first) (file_state conn)
    same_less same db = subst (λ c. (file_state c).may_leave db) same

    -- a check
    pub checked_less : (told : Bool) → Decides told (HasVersion (file_state first).now.schema)
        → IsQuietWhere (HasVersion (file_state first).now.schema) (file_state first) (file_state conn)
        → (¬ (HasVersion (file_state first).now.schema) → conn ≡ first)
        → HasCleanDisk (file_state conn) → LeavesNoMore (file_state first) (file_state conn)
    checked_less told is quiet untouched clean = elim (decided told _ is) [
      | inl has ↦ quiet.left clean has
      | inr none ↦ same_less (untouched none)
    ]

    -- an open that is refused, of a database with some table
    module _ (V : Type 0) (e : OpenFault) (some : ¬ ((file_state first).now.schema ≡ no_schema)) where
      foreign : ¬ (HasVersion (file_state first).now.schema) → IsForeign (file_state first).now.schema
      foreign none = record {
        some = some;
        other = λ ours. none (has_version_in newest (file_state first).now.schema ours);
      }

      refused : (f : OpenFault) → handed V e conn ≡ handed V f first → conn ≡ first
      unfolding fault_of
      refused f same =
          ap (λ (r : Result V (OpenFault × Held (FileStore D g))). (fault_of r (e, conn)).1) same

      by_holder : (h : Holder) → IsOf h (file_state first).now.schema
          → ¬ (HasVersion (file_state first).now.schema)
          → (IsForeign (file_state first).now.schema → ¬ (HasVersion (file_state first).now.schema)
          → IsMixed (file_state first).now.schema vault_names
          → handed V e conn ≡ handed V (WrongSchema (pos 0)) first)
          → (IsForeign (file_state first).now.schema → ¬ (HasVersion (file_state first).now.schema)
          → ¬ (IsMixed (file_state first).now.schema vault_names) → handed V e conn ≡ handed V Store first)
          → conn ≡ first
      by_holder holder.Nobody is none mixed strange = absurd (some is)
      by_holder holder.Vault is none mixed strange =
          absurd (none (has_version_in newest (file_state first).now.schema is))
      by_holder holder.Mixed is none mixed strange =
          refused (WrongSchema (pos 0)) (mixed (foreign none) none is.1)
      by_holder holder.Other is none mixed strange = refused Store (strange (foreign none) none is.1)

      pub opened_less : (told : Bool) (h : Holder) → Decides told (HasVersion (file_state first).now.schema)
          → IsOf h (file_state first).now.schema
          → (¬ ((file_state first).now.schema ≡ no_schema)
          → IsQuietWhere (HasVersion (file_state first).now.schema) (file_state first) (file_state conn))
          → (IsForeign (file_state first).now.schema → ¬ (HasVersion (file_state first).now.schema)
          → IsMixed (file_state first).now.schema vault_names
          → handed V e conn ≡ handed V (WrongSchema (pos 0)) first)
          → (IsForeign (file_state first).now.schema → ¬ (HasVersion (file_state first).now.schema)
          → ¬ (IsMixed (file_state first).now.schema vault_names) → handed V e conn ≡ handed V Store first)
          → HasCleanDisk (file_state conn) → LeavesNoMore (file_state first) (file_state conn)
      opened_less told h is of quiet mixed strange clean = elim (decided told _ is) [
        | inl has ↦ (quiet some).left clean has
        | inr none ↦ same_less (by_holder h of none mixed strange)
      ]
