-- What a task answered that sets the merchants of a list.
use Rattle.std.proofs.Common.{◌≡◌, ℕ, true, false, cond, not, List, [], ◌∷◌, Result, Ok, inl, inr, sym}
use Rattle.std.proofs.Common.{subst, refl, length}
use Rattle.std.specs.Global.{Vec}
use Rattle.vault_core.specs.Proper.{AllProper}
use Rattle.vault_core.specs.Sound.{Sound}
use Rattle.vault_core.specs.Vault.{Vault as Content}
use Rattle.vault_core.specs.declared.command.Command.{Command}
use Rattle.vault_engine.specs.Passing.{IsBefore, Passage}
use Rattle.vault_store.specs.Listed.{merchant_rows}
use Rattle.vault_merchants.specs.ListedMerchants.{Wanted}
use Rattle.vault_changes.specs.Settings.{Named, missing_merchants, settings_at, stands_in, wanted_at}
use Rattle.vault_jobs.specs.Doing.{SetEnds}
use Rattle.vault_jobs.specs.Outside.{Outside}
use Rattle.vault_jobs.specs.Streams.{Streams, output_with}
use Rattle.vault_jobs.specs.Tasks.{merchants_line}
use Rattle.vault_jobs.specs.declared.stop.Stop.{Stop}
use Rattle.vault_jobs.specs.declared.task.Outcome.{Outcome as Ended}
use Rattle.vault_jobs.specs.declared.task.Outcome.TheVariants as outcome
use Rattle.vault_promise.proofs.SettledRights.{unread_works}
use Rattle.vault_promise.proofs.TaskAnswers.{Works, commands_works}
use Rattle.vault_promise.specs.Shapes.Shape.{Commands}
use Rattle.vault_promise.specs.Told.{IsQuiet}

-- settings of some of the merchants are proper where those of all are
pub some_set : (now : ℕ) (held : List Named) (rows : List Wanted) → AllProper (wanted_at now rows)
    → AllProper (settings_at now rows held)
some_set now held [] proper = tt
some_set now held (row ∷ rows) proper =
    let rest = some_set now held rows proper.1 in
    elim (not (stands_in held row)) as (λ b. AllProper (wanted_at now (cond b
    (row ∷ missing_merchants rows held) (missing_merchants rows held)))) [
      | true ↦ (proper.0, rest)
      | false ↦ rest
    ]

module _ (at : Outside) (w : Passage) (V : Content) (b : IsBefore w V) (sound : Sound V) (s : Streams)
    (unsent : Type 0) (quiet : unsent → IsQuiet s) (F : Type 0) where
  -- settings of a list, and the line that counts them
  abbrev Set : List Command → Type 0
  Set cs = Works at w V (Commands cs (merchants_line (length cs))) F s

  pub set_works : (rows : Vec Wanted) (now : ℕ) → AllProper (wanted_at now rows.items) →
      (r : Result Ended Stop) → (F → r ≡ Ok outcome.Done)
      → SetEnds now rows.items w r (output_with unsent s.sent_old s.sent_new s.writer)
      → Set (settings_at now rows.items (merchant_rows V))
  set_works rows now proper r fin (inl (cs, of, h)) =
      let is = of V b in
      subst Set is (commands_works at w V b s unsent quiet F cs (merchants_line (length cs))
      (subst AllProper (sym is) (some_set now (merchant_rows V) rows.items proper)) r fin h)
  set_works rows now proper r fin (inr (f, is, silent, h)) =
      let cs = settings_at now rows.items (merchant_rows V) in
      unread_works at w V b sound s unsent quiet F (Commands cs (merchants_line (length cs)))
      ((0, refl), inl (quiet silent)) (λ d. cc (fin d, is)) f h
