-- The files of a store that is closed.
use Rattle.std.proofs.Common.{◌≡◌, ◌∙◌, Bool, true, false, IsTrue, ap, refl, subst, sym}
use Rattle.sqlite.specs.View.{IsClean, doubt}
use Rattle.sqlite_disk.specs.declared.Disk.{Ghosts}
use Rattle.sqlite_pool.proofs.StateLemmas.{clean_is, may_leave_is}
use Rattle.sqlite_store.specs.FileStore as files
use Rattle.sqlite_store.specs.declared.store.FileStore.{FileStore}
use Rattle.sqlite_wal.specs.Files.{outcomes}
use Rattle.sqlite_wal.specs.Reads.{AreClean, are_clean}
use Rattle.sqlite_wal.specs.Recovery.{Image}

no_doubt : (b : Bool) → IsTrue b → doubt b ≡ 0
unfolding doubt
no_doubt true h = refl
no_doubt false h = cc (h)

module _ {D : Type 0} {g : Ghosts D} (it : FileStore D g) (log db : D) (same : (log, db) ≡ files.files it)
    (clean : AreClean g log db) where
  are_clean_too : AreClean g (files.files it).0 (files.files it).1
  are_clean_too = sym (ap (λ (p : D × D). are_clean g p.0 p.1) same) ∙ clean

  pub was_clean : IsClean (files.view it)
  was_clean = no_doubt _ (clean_is it.pool ∙ are_clean_too)

  pub may_be_left : (next : Image) → outcomes g log db next → (files.state it).may_leave next
  may_be_left next may = may_leave_is it.pool next are_clean_too
      (subst (λ (p : D × D). outcomes g p.0 p.1 next) same may)
