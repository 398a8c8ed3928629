-- What whoever opens a vault's files after a stop finds in them.
use Rattle.std.proofs.Common.{◌≡◌, IsTrue, refl}
use Rattle.sqlite.specs.State.{State}
use Rattle.sqlite.specs.Tree.{Trees}
use Rattle.sqlite_disk.specs.declared.Disk.{Ghosts}
use Rattle.sqlite_store.specs.FileStore as files
use Rattle.sqlite_store.specs.FileStore.{view}
use Rattle.sqlite_store.specs.declared.store.FileStore.{FileStore}
use Rattle.vault_file.specs.Closed.{ReopensAs}
use Rattle.vault_file.proofs.Reopened.{reopens_in, reopens_only, reopens_some}
use Rattle.vault_recover.proofs.Reopened.{reopens, reopens_either, reopens_first}
use Rattle.vault_schema.specs.Left.{last_commit}

-- files of which a crash leaves no more than of the connection
pub reopens_as : {D : Type 0} {g : Ghosts D} (it : FileStore D g) → IsTrue (files.view it).is_numbered
    → (s : State) → (IsTrue s.is_open → (db : Trees) → s.may_leave db → db ≡ s.committed.trees)
    → ((db : Trees) → files.recovers it db → s.may_leave db) → ReopensAs s it
reopens_as it numbered s settled leaves = record {
  kept = λ V held. reopens it numbered V _ (last_commit s V _ held refl)
      (λ db left. settled held.is_open db (leaves db left));
  either = λ V W each. reopens_either it numbered V W (λ db left. each db (leaves db left));
  first = λ before blank each. reopens_first it numbered before blank (λ db left. each db (leaves db left));
  some = λ V each. reopens_some it numbered V (λ db left. each db (leaves db left));
  same = λ v V each. reopens_in it numbered v V (λ db left. each db (leaves db left));
  only = λ schema one sound alone.
      reopens_only it numbered schema one sound (λ db left. alone db (leaves db left));
}
