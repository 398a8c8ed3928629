-- A run that a call of the program was.
use Rattle.std.specs.Prelude.{◌≡◌, ℕ, List, Option}
use Rattle.clap.specs.Words.{Text}
use Rattle.sqlite_disk.specs.declared.Disk.{Ghosts}
use Rattle.sqlite_store.specs.declared.store.FileStore.{FileStore}
use Rattle.sqlite_wal.specs.Recovery.{Image}
use Rattle.vault_app.specs.Ending.{said_on}
use Rattle.vault_app.specs.Jobs.{DoesRun}
use Rattle.vault_listen.specs.Peers.{Event}
use Rattle.vault_live.specs.Turns.{TellsTurns, Turn}
use Rattle.vault_wire.specs.declared.watched.Watched.{Watched}
use Rattle.vault_jobs.specs.Streams.{Known, seen_over, seen_with, streams, with_turns}
use Rattle.vault_app.specs.World.{World}
use Rattle.vault_promise.specs.Runs.{IsFound, IsRun, Leaves, Moments, Run, TellsOnly, Texts, last_of}

-- How that is read which a call works with: its disk, its network, its input, its output and its errors.
pub record Views (D N R W E : Type 0) : Type 1 where
  pub disk : Ghosts D
  pub tells : N → List Event → Type 0
  pub remaining : R → Known
  pub contents : W → Known
  pub said : E → Known

-- what a call works with is read so
abbrev pub views : {D N R W E : Type 0} → Ghosts D → (N → List Event → Type 0) → (R → Known) → (W → Known)
    → (E → Known) → Views D N R W E
views disk tells remaining contents said =
    record { disk = disk; tells = tells; remaining = remaining; contents = contents; said = said }

-- what a call begins with: its world, its words, its network and its streams
pub record CallBegun (N R W E : Type 0) : Type 1 where
  pub world : World
  pub words : List Text
  pub network : N
  pub input : Watched R
  pub output : Watched W
  pub errors : Watched E

-- a call begins with these
abbrev pub call_begun : {N R W E : Type 0} → World → List Text → N → Watched R → Watched W → Watched E
    → CallBegun N R W E
call_begun world words network input output errors = record {
  world = world;
  words = words;
  network = network;
  input = input;
  output = output;
  errors = errors;
}

-- what a call ends with: its exit status, the bytes that may be left, its network and its streams
pub record CallEnded (N R W E : Type 0) : Type 1 where
  pub status : ℕ
  pub MayBeLeft : Image → Type 0
  pub network : N
  pub input : Watched R
  pub output : Watched W
  pub errors : Watched E

-- a call ends with these
abbrev pub call_ended : {N R W E : Type 0} → ℕ → (Image → Type 0) → N → Watched R → Watched W → Watched E
    → CallEnded N R W E
call_ended status MayBeLeft network input output errors = record {
  status = status;
  MayBeLeft = MayBeLeft;
  network = network;
  input = input;
  output = output;
  errors = errors;
}

-- The run is what a call that began and ended with these did by the clause of `run`. Its world tells no other
-- moments and texts than the run's. Its file held the bytes with which the run begins, and what may be left now may be
-- left of the files that it left. It ended with its status, and the network told its turns.
pub record IsCallOf {D N R W E : Type 0} (how : Views D N R W E) (old : CallBegun N R W E)
    (new : CallEnded N R W E) (r : Run) : Type 0 where
  pub left : Option (FileStore D how.disk)
  pub told : Watched W
  pub turns : List Turn
  pub came : TellsTurns (how.tells old.network) (how.tells new.network) turns
  pub does : DoesRun old.world old.words (new.status, left)
      (seen_with (seen_over how.remaining old.input new.input how.contents old.output told) turns)
      (said_on how.contents told new.output) (said_on how.said old.errors new.errors)
  pub is : r ≡ record {
    begins = r.begins;
    words = old.words;
    moments = r.moments;
    ending = does.ending;
    texts = r.texts;
    streams = with_turns (streams how.remaining old.input new.input how.contents old.output told) turns;
    last = last_of how.contents new.output how.said old.errors new.errors;
  }
  pub tells : TellsOnly old.world r.moments r.texts
  pub found : IsFound old.words (λ path. old.world.holds path r.begins)
  pub leaves : (next : Image) → new.MayBeLeft next → Leaves r.begins left next

-- Where the file at the path of the words holds these bytes, the call is a run from them up to whatever may
-- be left, with whatever moments and texts its world tells.
abbrev pub IsRunFrom : {D N R W E : Type 0} → Image → Views D N R W E → CallBegun N R W E
    → CallEnded N R W E → Type 0
IsRunFrom image how old new = (moments : Moments) (texts : Texts) → TellsOnly old.world moments texts
    → IsFound old.words (λ path. old.world.holds path image)
    → (r : Run) × (r.begins ≡ image) × (r.moments ≡ moments) × (r.texts ≡ texts) × IsCallOf how old new r
    × ((next : Image) → new.MayBeLeft next → IsRun r next)
