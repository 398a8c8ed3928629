-- The moment of a job.
use Rattle.std.specs.Prelude.{◌≡◌, ℕ, Option, Some, None}
use Rattle.vault_listen.specs.Live.{Turns}
use Rattle.vault_jobs.specs.declared.clock.Giver.{Giver}
use Rattle.vault_jobs.specs.declared.clock.Giver.TheVariants.{Words, Clock}

-- the moment is the one that is fixed, where one is, and else one that was told
abbrev pub IsMomentOf : Turns → Option ℕ → ℕ → Type 0
IsMomentOf tells fixed moment = ((now : ℕ) → fixed ≡ Some now → moment ≡ now)
    × (fixed ≡ None → tells 0 moment)

-- who gives the moment: the words, where they fix it, and else the clock
abbrev pub giver_of : Option ℕ → Giver
giver_of (Some now) = Words
giver_of None = Clock
