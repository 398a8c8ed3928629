-- A service that may follow lists.
use Rattle.std.proofs.Common.{◌≡◌, ℕ, List, Bool, true, false, Result, Ok, inr, refl, sym, subst}
use Rattle.vault_core.specs.Runs.{run}
use Rattle.vault_core.specs.Vault.{Vault as Content}
use Rattle.vault_engine.specs.Passing.{Passage, vault_passing}
use Rattle.vault_live.specs.Turns.{Turn}
use Rattle.vault_store.specs.Applied.{Contains, tables_of}
use Rattle.vault_store.specs.declared.vault.Vault.{Vault}
use Rattle.vault_jobs.proofs.RefinedPassages.{serve_ends}
use Rattle.vault_jobs.specs.Beginning.{CarriesOut}
use Rattle.vault_jobs.specs.Doing.{EndsUnfailed, ListedServeEnds, ServeEnds, serving_of}
use Rattle.vault_jobs.specs.Lists.{asked_of, begin_of, follows}
use Rattle.vault_jobs.specs.Outside.{Outside}
use Rattle.vault_jobs.specs.Streams.{Known, output_with}
use Rattle.vault_jobs.specs.declared.lists.Lists.{Lists}
use Rattle.vault_jobs.specs.declared.stop.Stop.{Stop}
use Rattle.vault_jobs.specs.declared.task.Outcome.{Outcome}

-- it can't be that none is followed
pub following : (some : Bool) → ¬ (some ≡ false) → some ≡ true
following true never = refl
following false never = absurd (never refl)

module _ {T : Type 0} (honest : T → Type 0) (holds : T → Content → Type 0)
    (leaves : T → Content → Content → Type 0) (v0 v1 v2 : Vault T) (lists : Lists)
    (goes : honest (tables_of v2) → honest (tables_of v1)) where
  abbrev step : Passage
  step = vault_passing honest holds leaves v1 v2

  -- what its lists ask for is done, and then it serves
  pub serves_then : CarriesOut (begin_of lists) (vault_passing honest holds leaves v0 v1) (Ok (Ok tt))
      → (at : Outside) (port n : ℕ) (r : Result Outcome Stop) (unsent : Type 0) (old new : Known)
      (writer : Bool) (ts : List Turn)
      → ServeEnds (serving_of at.tells (asked_of at lists) port n) step r (output_with unsent old new writer)
      ts
      → (follows lists ≡ false → EndsUnfailed r writer)
      → ListedServeEnds (serving_of at.tells (asked_of at lists) port n) lists
      (vault_passing honest holds leaves v0 v2) r (output_with unsent old new writer) ts
  serves_then carried at port n r unsent old new writer ts h unfailed = inr (
    λ V b. (carried V (goes b.0, b.1)).0,
    serve_ends (honest (tables_of v2))
        (λ U. (V : Content) × Contains holds v0 V × (U ≡ run (begin_of lists V) V))
        (Contains holds v2) (leaves (tables_of v2)) step
        (λ U honest_now (V, held, is).
        (honest_now, subst (Contains holds v1) (sym is) (carried V (goes honest_now, held)).1.0))
        (λ honest_now V kept. kept) (λ honest_now V W torn. torn) at.tells (asked_of at lists) port n r
        unsent old new writer ts h,
    unfailed,
  )
