-- What is known of files between two runs of the program: the runs that came before, one after the other.
use Rattle.std.specs.Prelude.{List, [], ◌∷◌, ◌++◌, None}
use Rattle.sqlite.specs.Tree.{Trees}
use Rattle.sqlite_disk.specs.declared.Disk.{Ghosts}
use Rattle.sqlite_store.specs.declared.store.FileStore.{FileStore}
use Rattle.sqlite_wal.specs.Recovery.{Image}
use Rattle.vault_core.specs.Sound.{Sound}
use Rattle.vault_core.specs.Vault.{Vault as Content}
use Rattle.vault_recover.specs.Crashed.{AreBlank, ReopensFirst}
use Rattle.vault_promise.specs.Again.{PipesAgree}
use Rattle.vault_promise.specs.Runs.{AreOf, Come, Run, Runs, before}
use Rattle.vault_promise.specs.Standing.{Stand}

-- These runs came one after the other, from bytes that are of this vault, which is sound, up to whatever
-- bytes may be left now. It is the premise of the laws of runs, of runs that really came.
pub record HaveRun (V : Content) (rs : List Run) (MayBeLeft : Image → Type 0) : Type 0 where
  pub sound : Sound V
  pub first : (end : Image) → MayBeLeft end → AreOf (before rs end) V None
  pub runs : (end : Image) → MayBeLeft end → Runs rs end

-- some runs did, from some vault
abbrev pub SomeHaveRun : (Image → Type 0) → Type 0
SomeHaveRun MayBeLeft = (V : Content) × (rs : List Run) × HaveRun V rs MayBeLeft

-- who opens whatever a stop may leave of the files finds no table, or the empty vault
abbrev pub IsBlankLeft : {D : Type 0} {g : Ghosts D} → FileStore D g → Type 0
IsBlankLeft left = (before : Trees) × AreBlank before × ReopensFirst left before

-- after whatever runs there were, the run is one more
abbrev pub GoesOn : (Image → Type 0) → Run → (Image → Type 0) → Type 0
GoesOn MayBeLeft r MayBeLeftNow = (V : Content) (rs : List Run) → HaveRun V rs MayBeLeft
    → HaveRun V (rs ++ r ∷ []) MayBeLeftNow

-- Some runs came, and up to whatever bytes may be left now they come to something: each opens the vault that
-- those before it leave, and what it answers stands in those after it.
abbrev pub StandsAfter : (Image → Type 0) → Type 0
StandsAfter MayBeLeft = ∥ ((V : Content) × (rs : List Run) × HaveRun V rs MayBeLeft
    × ((end : Image) → MayBeLeft end → ∥ ((come : Come V None rs end) × Stand V None rs end come) ∥₁)) ∥₁

-- with each of the runs before it, whichever they were, it agrees
abbrev pub AgreesWith : (Image → Type 0) → Run → Type 0
AgreesWith MayBeLeft r = (V : Content) (rs between : List Run) (first : Run)
    → HaveRun V (rs ++ first ∷ between) MayBeLeft → ∥ PipesAgree first r ∥₁
