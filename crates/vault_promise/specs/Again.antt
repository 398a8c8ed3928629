-- Two runs of `pipe`, of which the later one is asked again what the earlier one answered.
use Rattle.std.specs.Prelude.{◌⊎◌, ℕ, List, ◌∷◌, ◌++◌, Option, None, take}
use Rattle.std.specs.Io.KnownBytes.{Appends}
use Rattle.sqlite_wal.specs.Recovery.{Image}
use Rattle.vault_core.specs.Sound.{Sound}
use Rattle.vault_core.specs.Vault.{Vault as Content}
use Rattle.vault_http.specs.Exchanges.{answer_for, last_text}
use Rattle.vault_wire.specs.Parts.{Parts}
use Rattle.vault_engine.specs.Asking.{Asked, texts}
use Rattle.vault_wire.specs.declared.fault.WireFault.{WireFault}
use Rattle.vault_jobs.specs.declared.task.Task.{Task}
use Rattle.vault_jobs.specs.declared.task.Task.TheVariants.{Pipe}
use Rattle.vault_app.specs.Asked.{AsksFor}
use Rattle.vault_app.specs.Plans.{IsTaskOf}
use Rattle.vault_promise.specs.Runs.{AreOf, Rests, Run, Runs, around, before, told_by}
use Rattle.vault_promise.specs.Standing.{IsRepliedIn, TokensStand}
use Rattle.vault_promise.specs.Told.{AreHeard}

-- the task answers no messages of the input
abbrev pub IsNoPipe : Task → Type 0
IsNoPipe (Pipe now digits) = ⊥
IsNoPipe task = Unit {0}

-- the run answered no messages of its input: it rests, or its words ask for another task
abbrev pub DidNoPipe : Run → Type 0
DidNoPipe r = Rests r
    ⊎ (t : Task) × AsksFor r.words (λ job. IsTaskOf (around r) job t) × IsNoPipe t

-- The run answered these messages of its input, from this vault: what went out are the texts that answer
-- them, up to some byte.
pub record Piped (r : Run) (W : Content) (xs : List (Asked Parts)) : Type 0 where
  pub now : Option ℕ
  pub digits : Option (List ℕ)
  pub heard : AreHeard (told_by r.moments) now digits r.streams xs
  pub fault : Option WireFault
  pub sent : ℕ
  pub went : Appends r.streams.sent_old r.streams.sent_new
      (take sent (texts answer_for W xs ++ last_text fault))

-- Both answered messages. A request that the first answered a token, if it is asked again in the second, with
-- whatever digits and at whatever moment, is answered that token.
pub record PipesAlike (r s : Run) : Type 0 where
  pub held : Content
  pub held_again : Content
  pub asked : List (Asked Parts)
  pub asked_again : List (Asked Parts)
  pub piped : Piped r held asked
  pub piped_again : Piped s held_again asked_again
  pub tokens : TokensStand (IsRepliedIn held asked) (IsRepliedIn held_again asked_again)

-- so it is, or one of the two answered no messages
abbrev pub PipesAgree : Run → Run → Type 0
PipesAgree r s = DidNoPipe r ⊎ (DidNoPipe s ⊎ PipesAlike r s)

-- Of any two runs among others, from bytes that are of a sound vault.
abbrev pub RunsAnswerAgain : Type 0
RunsAnswerAgain = (rs between more : List Run) (r s : Run) (end : Image) (V : Content) → Sound V
    → AreOf (before (rs ++ r ∷ (between ++ s ∷ more)) end) V None
    → Runs (rs ++ r ∷ (between ++ s ∷ more)) end → ∥ PipesAgree r s ∥₁
