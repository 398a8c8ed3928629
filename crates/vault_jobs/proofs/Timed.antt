-- A sweep, after the merchant's moment was read, or wasn't.
use Rattle.std.proofs.Common.{◌≡◌, ℕ, [], Bool, false, Option, Result, Err, ◌∙◌, ap, arith, inl, inr}
use Rattle.std.proofs.Common.{refl, sym}
use Rattle.std.specs.Option.{option_map_or}
use Rattle.vault_core.specs.Vault.{Vault as Content}
use Rattle.vault_batch.specs.declared.asker.Asker.{Asker}
use Rattle.vault_engine.specs.Passing.{IsBefore, Keeps, Passage, vault_passing}
use Rattle.vault_store.specs.Applied.{Contains, tables_of}
use Rattle.vault_store.specs.declared.vault.Fault.{Fault}
use Rattle.vault_store.specs.declared.vault.Fault.TheVariants.{Memory, Store, Reopen}
use Rattle.vault_store.specs.declared.vault.Vault.{Vault}
use Rattle.vault_changes.specs.Moments.{is_far_ahead, is_merchant_ahead, moment_in}
use Rattle.vault_changes.specs.Settling.{FailsToRead}
use Rattle.vault_jobs.proofs.RefinedPassages.{sweep_ends}
use Rattle.vault_jobs.proofs.Sweeping.{none_swept}
use Rattle.vault_jobs.specs.Doing.{SweepEnds, TimedSweepEnds}
use Rattle.vault_jobs.specs.Notes.{is_too_early}
use Rattle.vault_jobs.specs.Streams.{Known, output_with}
use Rattle.vault_jobs.specs.Sweeps.{Sweeps, left_dead}
use Rattle.vault_jobs.specs.declared.clock.Giver.{Giver}
use Rattle.vault_jobs.specs.declared.clock.Giver.TheVariants.{Words, Clock}
use Rattle.vault_jobs.specs.declared.stop.Stop.{Stop}
use Rattle.vault_jobs.specs.declared.stop.Stop.TheVariants as stop
use Rattle.vault_jobs.specs.declared.task.Outcome.{Outcome}

module _ (w : Passage) (who : Asker) (now : ℕ) where
  -- a vault that isn't read isn't swept
  unread_sweeps : (f : Fault) → FailsToRead w f → Sweeps who now w (Err f)
  unread_sweeps Memory same = ([], λ V b. (none_swept who now V, same V b))
  unread_sweeps Store (is, h) = (
    [],
    [],
    omega arith,
    λ V b. (is, none_swept who now V, (left_dead who now [] V, refl), h V b),
  )
  unread_sweeps Reopen h = absurd h

  pub unread_then : (giver : Giver) (f : Fault) → FailsToRead w f → (unsent : Type 0)
      → unsent → (old new : Known) (writer : Bool)
      → TimedSweepEnds giver who now w (Err (stop.Vault f)) (output_with unsent old new writer)
  unread_then Words f h unsent silent old new writer = (silent, unread_sweeps f h)
  unread_then Clock f h unsent silent old new writer = inr (inr (f, refl, silent, h))

module _ {T : Type 0} (honest : T → Type 0) (holds : T → Content → Type 0)
    (leaves : T → Content → Content → Type 0) (v0 v1 : Vault T) (who : Asker) (now : ℕ) (moment : Option ℕ)
    (told : (V : Content) → IsBefore (vault_passing honest holds leaves v0 v1) V
    → (moment ≡ moment_in V who.merchant) × Keeps (vault_passing honest holds leaves v0 v1) V) where
  abbrev read : Passage
  read = vault_passing honest holds leaves v0 v1

  -- whether the merchant's is far ahead
  ahead : (V : Content) → IsBefore read V
      → is_merchant_ahead V who.merchant now ≡ option_map_or (is_far_ahead now) moment false
  ahead V b = sym (ap (λ (o : Option ℕ). option_map_or (is_far_ahead now) o false) (told V b).0)

  module _ (v2 : Vault T) (goes : honest (tables_of v2) → honest (tables_of v1)) where
    abbrev whole : Passage
    whole = vault_passing honest holds leaves v0 v2

    swept : (r : Result Outcome Stop) (unsent : Type 0) (old new : Known) (writer : Bool)
        → SweepEnds who now (vault_passing honest holds leaves v1 v2) r (output_with unsent old new writer)
        → SweepEnds who now whole r (output_with unsent old new writer)
    swept r unsent old new writer h =
        sweep_ends (honest (tables_of v2)) (Contains holds v0) (Contains holds v2) (leaves (tables_of v2))
        (vault_passing honest holds leaves v1 v2)
        (λ V honest_now held. (honest_now, (told V (goes honest_now, held)).1.0))
        (λ honest_now V kept. kept) (λ honest_now V W torn. torn) who now r unsent old new writer h

    -- the merchant's isn't far ahead, or the words give the sweep's, and then it sweeps
    pub sweeps_then : (giver : Giver) → is_too_early giver now moment ≡ false →
        (r : Result Outcome Stop) (unsent : Type 0) (old new : Known) (writer : Bool)
        → SweepEnds who now (vault_passing honest holds leaves v1 v2) r (output_with unsent old new writer)
        → TimedSweepEnds giver who now whole r (output_with unsent old new writer)
    sweeps_then Words near r unsent old new writer h = swept r unsent old new writer h
    sweeps_then Clock near r unsent old new writer h =
        inl (λ V b. ahead V (goes b.0, b.1) ∙ near, swept r unsent old new writer h)
