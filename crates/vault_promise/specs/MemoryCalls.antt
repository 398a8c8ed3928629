-- Calls of the program over files in memory.
use Rattle.std.specs.Prelude.{◌≡◌, ℕ, List}
use Rattle.clap.specs.Words.{Text}
use Rattle.sqlite_disk.specs.declared.memory.Memory.{Memory}
use Rattle.sqlite_wal.specs.Recovery.{Image}
use Rattle.vault_app.specs.World.{World}
use Rattle.vault_wire.specs.declared.watched.Watched.{Watched}
use Rattle.vault_promise.specs.Again.{PipesAgree}
use Rattle.vault_promise.specs.Between.{files_kept}
use Rattle.vault_promise.specs.Kept.{AgreesWith, GoesOn}
use Rattle.vault_promise.specs.Memory.{MayBeLeftIn, bytes_in}
use Rattle.vault_promise.specs.Runs.{Run}
use Rattle.vault_promise.specs.Witness.{IsCallOf, Views, call_begun, call_ended}
use Rattle.vault_promise.specs.declared.kept.KeptFiles.{KeptFiles}

-- what a call hands on to the next one: the files, the network, the output and the errors
pub record HandedOn (N W E : Type 0) : Type 0 where
  pub files : KeptFiles
  pub network : N
  pub output : Watched W
  pub errors : Watched E

-- a call hands on these
abbrev pub handed_on : {N W E : Type 0} → KeptFiles → N → Watched W → Watched E → HandedOn N W E
handed_on files network output errors =
    record { files = files; network = network; output = output; errors = errors }

-- what is a call's own: its words, its input before it and after it, and its exit status
pub record OneCall (R : Type 0) : Type 0 where
  pub words : List Text
  pub input : Watched R
  pub input_left : Watched R
  pub status : ℕ

-- a call of these words, from this input to that, with this exit status
abbrev pub one_call : {R : Type 0} → List Text → Watched R → Watched R → ℕ → OneCall R
one_call words input input_left status =
    record { words = words; input = input; input_left = input_left; status = status }

-- The run is what a call did over files in memory, in the world of their bytes. It begins with these bytes,
-- and ends with those that may be left of the files that it hands on.
abbrev pub IsMemoryCall : {N R W E : Type 0} → Views Memory N R W E → (Image → World) → OneCall R
    → HandedOn N W E → HandedOn N W E → Run → Type 0
IsMemoryCall how world call old new r = (r.begins ≡ bytes_in (files_kept old.files))
    × IsCallOf how
    (call_begun (world (bytes_in (files_kept old.files))) call.words old.network call.input old.output
    old.errors)
    (call_ended call.status (MayBeLeftIn (files_kept new.files)) new.network call.input_left new.output
    new.errors) r

-- Two calls, the second on what the first handed on: they are two runs, of which the second answers again
-- what the first answered.
abbrev pub AreTwoCalls : {N R W E : Type 0} → Views Memory N R W E → (Image → World) → OneCall R → OneCall R
    → HandedOn N W E → HandedOn N W E → Type 0
AreTwoCalls {N = N} {W = W} {E = E} how world first second old new = (r s : Run) × (between : HandedOn N W E)
    × IsMemoryCall how world first old between r × IsMemoryCall how world second between new s
    × ∥ PipesAgree r s ∥₁

-- after whatever runs there were up to some files, this run up to others is one more, and agrees with each
abbrev pub FollowsAll : KeptFiles → KeptFiles → Run → Type 0
FollowsAll old new r = GoesOn (MayBeLeftIn (files_kept old)) r (MayBeLeftIn (files_kept new))
    × AgreesWith (MayBeLeftIn (files_kept old)) r
