-- A merchant's moment that is far ahead of the clock's.
use Rattle.std.specs.Prelude.{◌≡◌, ℕ, false}
use Rattle.vault_refusal.specs.Refusal.{number_of}
use Rattle.vault_refusal.specs.declared.refusal.Refusal.TheVariants.{MomentAhead}
use Rattle.vault_core.specs.Keys.{Bytes}
use Rattle.vault_core.specs.Vault.{Vault as Content}
use Rattle.vault_changes.specs.Moments.{is_merchant_ahead}
use Rattle.vault_jobs.specs.declared.clock.Giver.{Giver}
use Rattle.vault_jobs.specs.declared.clock.Giver.TheVariants.{Words, Clock}

-- by which number a sweep is refused where it is ahead by more than a day
abbrev pub moment_ahead : ℕ
moment_ahead = number_of MomentAhead

-- a sweep may begin: its words fix the moment, or the merchant's isn't so far ahead of the clock's
abbrev pub MaySweep : Giver → Content → Bytes → ℕ → Type 0
MaySweep Words V m now = Unit {0}
MaySweep Clock V m now = is_merchant_ahead V m now ≡ false
