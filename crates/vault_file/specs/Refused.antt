-- Refusals by 34, and what is so after a refusal that gives something back.
use Rattle.std.specs.Prelude.{◌≡◌, ◌↔◌, Option, None, Result, Err, IfErr, IfOk, IfSome, IsErrAnd, Ok}
use Rattle.sqlite.specs.Files.{file_state}
use Rattle.sqlite.specs.Held.{Held}
use Rattle.sqlite.specs.State.{HasCleanDisk}
use Rattle.sqlite_disk.specs.declared.Disk.{Ghosts}
use Rattle.sqlite_store.specs.declared.store.FileStore.{FileStore}
use Rattle.sqlite_wal.specs.Recovery.{Image}
use Rattle.vault_file.specs.Paths.{Each}
use Rattle.vault_file.specs.declared.fault.NotOpened.{NotOpened}
use Rattle.vault_file.specs.Faults.{IsRefusal}

-- it is refused by 34
abbrev pub IsRefused : {X Y : Type 0} → Result X (NotOpened × Option Y) → Type 0
IsRefused result = IsErrAnd result (λ e. IsRefusal e.0)

-- 34, and no other refusal, gives nothing back
abbrev pub GivesBack : {X Y : Type 0} → Result X (NotOpened × Option Y) → Type 0
GivesBack result = IfErr result (λ e. IsRefusal e.0 ↔ (e.1 ≡ None))

-- where something is given back, this is so of it, of the refusal and of each of the bytes that there may be
abbrev pub WhereRefused : {X Y : Type 0} → Result X (NotOpened × Option Y) → (Image → Type 0)
    → (Image → NotOpened → Y → Type 0) → Type 0
WhereRefused result Holds Is =
    IfErr result (λ e. IfSome e.1 (λ left. Each Holds (λ image. Is image e.0 left)))

-- where a connection is given back over an honest disk, the refusal says this of each of the bytes
abbrev pub TellsWhereRefused : {X D : Type 0} {g : Ghosts D}
    → Result X (NotOpened × Option (Held (FileStore D g))) → (Image → Type 0)
    → (Image → NotOpened → Type 0) → Type 0
TellsWhereRefused result Holds Is =
    WhereRefused result Holds (λ image why conn. HasCleanDisk (file_state conn) → Is image why)

-- a connection that is given back, done or refused, leaves this of each of the bytes
abbrev pub WhereGiven : {X Y : Type 0} → Result (X × Y) (NotOpened × Option Y) → (Image → Type 0)
    → (Image → Y → Type 0) → Type 0
WhereGiven (Ok told) Holds Is = Each Holds (λ image. Is image told.1)
WhereGiven (Err e) Holds Is = IfSome e.1 (λ left. Each Holds (λ image. Is image left))

-- files that are handed out closed are so
abbrev pub WhereShut : {X Y : Type 0} → Result X NotOpened × Option Y → (Image → Type 0)
    → (Image → Y → Type 0) → Type 0
WhereShut result Holds Is = IfSome result.1 (λ left. Each Holds (λ image. Is image left))

-- they are so if what was asked is done
abbrev pub WhereDone : {X Y : Type 0} → Result X NotOpened × Option Y → (Image → Type 0)
    → (Image → Y → X → Type 0) → Type 0
WhereDone result Holds Is =
    IfOk result.0 (λ told. WhereShut result Holds (λ image left. Is image left told))

-- they are so if it is refused
abbrev pub WhereLeft : {X Y : Type 0} → Result X NotOpened × Option Y → (Image → Type 0)
    → (Image → Y → NotOpened → Type 0) → Type 0
WhereLeft result Holds Is =
    IfErr result.0 (λ why. WhereShut result Holds (λ image left. Is image left why))
