-- Files in memory, and the world of a run over them.
use Rattle.std.specs.Prelude.{◌≡◌, ℕ, List, false}
use Rattle.sqlite_disk.specs.History.{MayLeave, steps_of}
use Rattle.sqlite_disk.specs.Memory.{memory_bytes}
use Rattle.sqlite_disk.specs.declared.Files.{Files}
use Rattle.sqlite_disk.specs.declared.memory.Memory.{Memory}
use Rattle.sqlite_wal.specs.Recovery.{Image}
use Rattle.vault_app.specs.World.{World, untold}
use Rattle.vault_listen.specs.Live.{Turns}
use Rattle.vault_live.specs.Following.{Looks}

-- the bytes of the files
abbrev pub bytes_in : Files Memory → Image
bytes_in files = record { log = memory_bytes files.log; db = memory_bytes files.db }

-- a stop may leave these bytes of a file
abbrev pub MayBeLeftOf : Memory → List ℕ → Type 0
MayBeLeftOf m = MayLeave false m.bytes.items m.synced.items (steps_of m.steps.items)

-- a stop may leave these bytes of the files
abbrev pub MayBeLeftIn : Files Memory → Image → Type 0
MayBeLeftIn files image = MayBeLeftOf files.log image.log × MayBeLeftOf files.db image.db

-- At every path the files hold these bytes, no path lacks them, and nothing else is told but moments and what
-- was looked at.
abbrev pub memory_world : Turns → (List ℕ → Looks) → Image → World
memory_world tells looks image = record untold {
  tells = tells;
  looks = looks;
  holds = λ path found. found ≡ image;
  refuses = λ path cause. Unit {0};
  says = λ path text. Unit {0};
  logs = λ path log. Unit {0};
}
