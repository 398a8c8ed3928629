-- A call over files in memory, and what may be left of them.
use Rattle.std.proofs.Common.{◌≡◌, Option, Some, subst, sym}
use Rattle.std.specs.Prelude.{IfSome}
use Rattle.sqlite.specs.View.{IsClean}
use Rattle.sqlite_disk.specs.declared.Disk.{Ghosts}
use Rattle.sqlite_store.specs.FileStore as files
use Rattle.sqlite_store.specs.declared.store.FileStore.{FileStore}
use Rattle.sqlite_wal.specs.Recovery.{Image}
use Rattle.vault_promise.proofs.JoinedRuns.{goes_on}
use Rattle.vault_promise.specs.Kept.{GoesOn}
use Rattle.vault_promise.specs.Runs.{IsRun, Leaves, Run}

-- what may be left of a store may be left of the run that left it
pub leaves_closed : {D : Type 0} {g : Ghosts D} (image : Image) (left : Option (FileStore D g))
    (it : FileStore D g) → left ≡ Some it → IsClean (files.view it) → (MayBeLeftNow : Image → Type 0)
    → ((next : Image) → MayBeLeftNow next → (files.state it).may_leave next)
    → (next : Image) → MayBeLeftNow next → Leaves image left next
leaves_closed image left it same clean MayBeLeftNow less next may =
    subst (λ l. Leaves image l next) (sym same) (clean, less next may)

-- a run from bytes that might be left
pub goes_from : (MayBeLeft MayBeLeftNow : Image → Type 0) (image : Image) (r : Run) → r.begins ≡ image
    → MayBeLeft image → ((next : Image) → MayBeLeftNow next → IsRun r next) → GoesOn MayBeLeft r MayBeLeftNow
goes_from MayBeLeft MayBeLeftNow image r begins at is =
    goes_on MayBeLeft MayBeLeftNow r (subst MayBeLeft (sym begins) at) is

-- what holds of what an option has
pub some_at : {A : Type 0} (P : A → Type 0) (o : Option A) (x : A) → o ≡ Some x → IfSome o P → P x
some_at {A = A} P o x same holds = let Q : Option A → Type 0 = λ l. IfSome l P in subst Q same holds
