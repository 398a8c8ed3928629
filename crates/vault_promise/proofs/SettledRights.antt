-- What a task answered that reads rights first: one that makes them those of a list, takes one away, or only
-- says what a vault holds.
use Rattle.std.proofs.Common.{◌≡◌, ◌+◌, ◌++◌, ◌-◌, ℕ, List, [], ◌∷◌, length, arith, ap₂, true}
use Rattle.std.proofs.Common.{None, Result, Ok, Err, inl, inr, refl, sym, ap, subst, ◌∙◌}
use Rattle.std.proofs.lemmas.List.{length-append, length-map}
use Rattle.std.specs.Prelude.{codes, decimal}
use Rattle.std.specs.Global.{Vec}
use Rattle.vault_core.specs.Proper.{AllProper, IsProper}
use Rattle.vault_core.specs.Scalar.{IsMoment}
use Rattle.vault_core.specs.Sound.{Sound}
use Rattle.vault_core.specs.Vault.{Vault as Content}
use Rattle.vault_core.specs.declared.command.Command.{Command}
use Rattle.vault_engine.specs.Passing.{IsBefore, Passage}
use Rattle.vault_rights.specs.Named.{Row}
use Rattle.vault_store.specs.declared.vault.Fault.{Fault}
use Rattle.vault_store.specs.declared.vault.Fault.TheVariants.{Memory, Store, Reopen}
use Rattle.vault_changes.specs.Changes.{AreChangesOf, changes_at, missing_rows, rights_of, settled_line}
use Rattle.vault_changes.specs.Changes.{surplus_rights, withdrawals_at}
use Rattle.vault_changes.specs.declared.changes.Changes.{Changes}
use Rattle.vault_changes.specs.Settling.{FailsToRead}
use Rattle.vault_jobs.specs.Doing.{ChangeEnds, SettleEnds, ShowEnds}
use Rattle.vault_changes.specs.Grants.{grants_at}
use Rattle.vault_jobs.specs.ListingLines.{shown_text}
use Rattle.vault_jobs.specs.Outside.{Outside}
use Rattle.vault_jobs.specs.Streams.{Streams, output_with}
use Rattle.vault_jobs.specs.declared.show.Shown.{Shown}
use Rattle.vault_jobs.specs.declared.stop.Stop.{Stop}
use Rattle.vault_jobs.specs.declared.stop.Stop.TheVariants as stop
use Rattle.vault_jobs.specs.declared.task.Outcome.{Outcome as Ended}
use Rattle.vault_jobs.specs.declared.task.Outcome.TheVariants as outcome
use Rattle.vault_app.specs.TaskValues.{IsOwn}
use Rattle.vault_live.proofs.ProperChanges.{settled_proper}
use Rattle.vault_promise.proofs.TaskAnswers.{Works, change_works, commands_works, part_of}
use Rattle.vault_promise.specs.Shapes.{Shape, rights_line}
use Rattle.vault_promise.specs.Shapes.Shape.{Commands, Words}
use Rattle.vault_promise.specs.Told.{IsQuiet, Tells}

-- the line of changes that make the rights those of rows
counted_line : (now : ℕ) (rows : List Row) (V : Content) (it : Changes) → AreChangesOf true now rows V it
    → settled_line it ≡ rights_line rows V
counted_line now rows V it of =
    let missing = missing_rows rows (rights_of V) in
    let surplus = surplus_rights rows (rights_of V) in
    let all : length it.commands.items ≡ length (grants_at now missing) + length (withdrawals_at now surplus) =
    ap length of.commands ∙ length-append (grants_at now missing) (withdrawals_at now surplus) in
    let given : length (grants_at now missing) ≡ length missing = length-map missing _ in
    let taken : length (withdrawals_at now surplus) ≡ length surplus = length-map surplus _ in
    let count = of.granted in
    let left : length it.commands.items - it.granted ≡ length surplus =
    omega (arith, all, given, taken, count) in
    ap₂ (λ (a b : ℕ). codes "granted " ++ decimal a ++ codes " withdrawn " ++ decimal b ++ codes "\n") count
    left

module _ (at : Outside) (w : Passage) (V : Content) (b : IsBefore w V) (sound : Sound V) (s : Streams)
    (unsent : Type 0) (quiet : unsent → IsQuiet s) (F : Type 0) where
  -- nothing was answered
  pub unread_works : (shape : Shape) → Tells at shape V [] s → ¬ F → (f : Fault)
      → FailsToRead w f → Works at w V shape F s
  unread_works shape told never Memory same = record {
    answered = [];
    undecided = None;
    proper = tt;
    last_proper = tt;
    tells = told;
    next = tt;
    done = λ f. absurd (never f);
    left = (same V b).1;
  }
  unread_works shape told never Store (is, h) = record {
    answered = [];
    undecided = None;
    proper = tt;
    last_proper = tt;
    tells = told;
    next = tt;
    done = λ f. absurd (never f);
    left = h V b;
  }
  unread_works shape told never Reopen h = absurd h

  pub changed_works : (c : Command) → IsOwn c → IsProper c → (r : Result Ended Stop)
      → (F → r ≡ Ok outcome.Done)
      → ChangeEnds c w r (output_with unsent s.sent_old s.sent_new s.writer)
      → Works at w V (Commands (c ∷ []) (codes "done\n")) F s
  changed_works c own proper r fin (inl h) =
      change_works at w V b s unsent quiet F c own proper r fin h
  changed_works c own proper r fin (inr (f, is, silent, h, some)) =
      unread_works (Commands (c ∷ []) (codes "done\n")) ((0, refl), inl (quiet silent)) (λ d. cc (fin d, is))
      f h

  pub settle_works : (rights : Vec Row) (now : ℕ) → IsMoment now → AllProper (grants_at now rights.items)
      → (r : Result Ended Stop) → (F → r ≡ Ok outcome.Done)
      → SettleEnds now rights.items w r (output_with unsent s.sent_old s.sent_new s.writer)
      → Works at w V
      (Commands (changes_at true now rights.items (rights_of V)) (rights_line rights.items V)) F s
  settle_works rights now moment proper r fin (inl (changes, of, h)) =
      let is = (of V b).commands in
      subst (λ cs. Works at w V (Commands cs (rights_line rights.items V)) F s) is
      (subst (λ l. Works at w V (Commands changes.commands.items l) F s)
      (counted_line now rights.items V changes (of V b))
      (commands_works at w V b s unsent quiet F changes.commands.items (settled_line changes)
      (subst AllProper (sym is) (settled_proper now rights.items V sound moment proper)) r fin h))
  settle_works rights now moment proper r fin (inr (f, is, silent, h)) =
      unread_works (Commands (changes_at true now rights.items (rights_of V)) (rights_line rights.items V))
      ((0, refl), inl (quiet silent)) (λ d. cc (fin d, is)) f h

  pub show_works : (it : Shown) (r : Result Ended Stop) → (F → r ≡ Ok outcome.Done)
      → ShowEnds (shown_text it) w r (output_with unsent s.sent_old s.sent_new s.writer)
      → Works at w V (Words (shown_text it V)) F s
  show_works it (Ok outcome.Done) fin (calm, same, h) = record {
    answered = [];
    undecided = None;
    proper = tt;
    last_proper = tt;
    tells = (refl, part_of s (shown_text it V) (h V b));
    next = tt;
    done = λ f. (refl, h V b);
    left = (same V b).1;
  }
  show_works it (Ok (outcome.Refused n)) fin h = absurd h
  show_works it (Ok outcome.SomeRefused) fin h = absurd h
  show_works it (Err (stop.Vault f)) fin (silent, h) =
      unread_works (Words (shown_text it V)) (refl, (0, quiet silent)) (λ d. cc (fin d)) f h
  show_works it (Err (stop.Service f)) fin (is, failed, same, h) = record {
    answered = [];
    undecided = None;
    proper = tt;
    last_proper = tt;
    tells = (refl, h V b);
    next = tt;
    done = λ f. absurd (cc (fin f));
    left = (same V b).1;
  }
  show_works it (Err (stop.Listener f)) fin h = absurd h
  show_works it (Err (stop.Unread about f)) fin h = absurd h
  show_works it (Err (stop.Batch f)) fin h = absurd h
