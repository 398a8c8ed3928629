-- What a service answered that may follow lists.
use Rattle.std.proofs.Common.{◌≡◌, ◌∙◌, ◌+◌, List, [], ◌++◌, Option, Some, None}
use Rattle.std.proofs.Common.{Result, Ok, Err, inl, inr, refl, sym, ap, subst, ◌⊎◌}
use Rattle.std.specs.Prelude.{IfSome, take}
use Rattle.vault_core.proofs.StaysSound.{stays_sound}
use Rattle.vault_core.specs.Proper.{AllProper}
use Rattle.vault_core.specs.Runs.{run}
use Rattle.vault_core.specs.Sound.{Sound}
use Rattle.vault_core.specs.Vault.{Vault as Content}
use Rattle.vault_core.specs.declared.command.Command.{Command}
use Rattle.vault_engine.specs.Passing.{IsBefore, Passage}
use Rattle.vault_merchants.specs.ListedMerchants.{Wanted}
use Rattle.vault_rights.specs.Named.{Row}
use Rattle.vault_store.specs.Listed.{merchant_rows}
use Rattle.vault_store.specs.declared.vault.Fault.TheVariants.{Memory, Store, Reopen}
use Rattle.vault_changes.proofs.GivenRights.{run_more}
use Rattle.vault_live.specs.Kinds.{merchants_changes, rights_changes}
use Rattle.vault_jobs.specs.Doing.{BeginEnds, ListedServeEnds, behind, serving_by}
use Rattle.vault_jobs.specs.Lists.{asked_of, begin_of, first_of}
use Rattle.vault_jobs.specs.Outside.{Outside}
use Rattle.vault_jobs.specs.Streams.{Streams, output_with}
use Rattle.vault_jobs.specs.declared.lists.ListFile.{ListFile}
use Rattle.vault_jobs.specs.declared.lists.Lists.{Lists}
use Rattle.vault_jobs.specs.declared.serve_task.ServeTask.{ServeTask}
use Rattle.vault_jobs.specs.declared.stop.Stop.{Stop}
use Rattle.vault_jobs.specs.declared.stop.Stop.TheVariants as stop
use Rattle.vault_jobs.specs.declared.task.Outcome.{Outcome as Ended}
use Rattle.vault_jobs.specs.declared.task.Outcome.TheVariants as outcome
use Rattle.vault_jobs.specs.declared.task.Task.TheVariants as task
use Rattle.vault_app.specs.TaskValues.{AreMerchantValues, AreRightValues, AreValues}
use Rattle.vault_promise.proofs.ListedMerchants.{some_set}
use Rattle.vault_promise.proofs.PipedMessages.{run_append}
use Rattle.vault_promise.proofs.Proper.{proper-append}
use Rattle.vault_promise.proofs.Serving.{all_came, asks_proper, serve_works, turns_said}
use Rattle.vault_live.proofs.ProperChanges.{settled_proper}
use Rattle.vault_promise.proofs.TaskAnswers.{Works, first_proper, one_more}
use Rattle.vault_promise.specs.Runs.{perhaps}
use Rattle.vault_promise.specs.Shapes.Shape.{Connections}
use Rattle.vault_promise.specs.Told.{IsQuiet}

-- what is asked for in the last turn of a service, where not all that its lists ask for is done
next_last : (o : Option Command) (First Last : Command → Type 0) → IfSome o Last
    → IfSome o (λ x. First x ⊎ Last x)
next_last None First Last next = tt
next_last (Some x) First Last next = inr next

-- behind the commands that they ask for
next_behind : (o : Option Command) (cs more : List Command) (Last : List Command → Command → Type 0)
    → IfSome o (Last more)
    → IfSome o (λ x. (rest : List Command) × (cs ++ more ≡ cs ++ rest) × Last rest x)
next_behind None cs more Last next = tt
next_behind (Some x) cs more Last next = (more, refl, next)

-- the commands that a list of merchants asks for are proper
set_proper : (o : Option (ListFile Wanted)) (V : Content) → IfSome o AreMerchantValues
    → AllProper (first_of merchants_changes o V)
set_proper None V values = tt
set_proper (Some it) V values = some_set it.now (merchant_rows V) it.rows.items values

-- and so are those of a list of rights
settle_proper : (o : Option (ListFile Row)) (V : Content) → Sound V → IfSome o AreRightValues
    → AllProper (first_of rights_changes o V)
settle_proper None V sound values = tt
settle_proper (Some it) V sound values = settled_proper it.now it.rows.items V sound values.0 values.1

-- and both of them, one after the other
begin_proper : (lists : Lists) (V : Content) → Sound V → IfSome lists.merchants AreMerchantValues
    → IfSome lists.rights AreRightValues → AllProper (begin_of lists V)
begin_proper lists V sound merchants rights =
    let set : List Command = first_of merchants_changes lists.merchants V in
    let proper = set_proper lists.merchants V merchants in
    proper-append set (first_of rights_changes lists.rights (run set V)) proper
    (settle_proper lists.rights (run set V) (stays_sound V set sound proper) rights)

module _ (at : Outside) (w : Passage) (V : Content) (b : IsBefore w V) (sound : Sound V) (s : Streams)
    (unsent : Type 0) (quiet : unsent → IsQuiet s) (F : Type 0) where
  -- what its lists ask for isn't all done
  begin_works : (service : ServeTask) → AllProper (begin_of service.lists V) → s.turns ≡ []
      → (r : Result Ended Stop) → (F → r ≡ Ok outcome.Done)
      → BeginEnds service.lists w r unsent → Works at w V (Connections service) F s
  begin_works service proper none r fin h = by_end r fin h
    where
      cs : List Command
      cs = begin_of service.lists V

      by_end : (r : Result Ended Stop) → (F → r ≡ Ok outcome.Done) → BeginEnds service.lists w r unsent
          → Works at w V (Connections service) F s
      by_end (Ok outcome.Done) fin h = absurd h
      by_end (Ok (outcome.Refused n)) fin (silent, h) =
          let it = h V b in
          record {
            answered = take (it.0 + 1) cs;
            undecided = None;
            proper = first_proper (it.0 + 1) cs proper;
            last_proper = tt;
            tells = inl ((it.0 + 1, refl), none, quiet silent);
            next = tt;
            done = λ f. absurd (cc (fin f));
            left = it.3.1;
          }
      by_end (Ok outcome.SomeRefused) fin h = absurd h
      by_end (Err (stop.Vault Memory)) fin (silent, h) =
          let it = h V b in
          record {
            answered = take it.0 cs;
            undecided = None;
            proper = first_proper it.0 cs proper;
            last_proper = tt;
            tells = inl ((it.0, refl), none, quiet silent);
            next = tt;
            done = λ f. absurd (cc (fin f));
            left = it.3.1;
          }
      by_end (Err (stop.Vault Store)) fin (silent, h) =
          let it = h V b in
          elim it.4 [
            | inl torn ↦ record {
              answered = take it.0 cs;
              undecided = None;
              proper = first_proper it.0 cs proper;
              last_proper = tt;
              tells = inl ((it.0, refl), none, quiet silent);
              next = tt;
              done = λ f. absurd (cc (fin f));
              left = torn;
            }
            | inr cut ↦
                let more = one_more it.0 cs cut.0 in
                record {
                  answered = take it.0 cs;
                  undecided = Some more.one;
                  proper = first_proper it.0 cs proper;
                  last_proper = more.proper proper;
                  tells = inl ((it.0, refl), none, quiet silent);
                  next = inl (it.0 + 1, sym more.is);
                  done = λ f. absurd (cc (fin f));
                  left = subst (λ W. w.left_new (run (take it.0 cs) V) W)
                      (ap (λ ds. run ds V) more.is ∙ run_more (take it.0 cs) more.one V) cut.1;
                }
          ]
      by_end (Err (stop.Vault Reopen)) fin (silent, h) = absurd (h V b)
      by_end (Err (stop.Service f)) fin h = absurd h
      by_end (Err (stop.Listener f)) fin h = absurd h
      by_end (Err (stop.Unread about f)) fin h = absurd h
      by_end (Err (stop.Batch f)) fin h = absurd h

-- a service that may follow lists
pub listed_serve_works : (at : Outside) (w : Passage) (V : Content) (b : IsBefore w V) (sound : Sound V)
    (s : Streams) (unsent : Type 0) (quiet : unsent → IsQuiet s) (F : Type 0) (service : ServeTask)
    → AreValues (task.Serve service) → (r : Result Ended Stop) → (F → r ≡ Ok outcome.Done)
    → ListedServeEnds (serving_by at service) service.lists w r
    (output_with unsent s.sent_old s.sent_new s.writer) s.turns
    → Works at w V (Connections service) F s
listed_serve_works at w V b sound s unsent quiet F service values r fin (inl (some, none, h)) =
    begin_works at w V b sound s unsent quiet F service
    (begin_proper service.lists V sound values.0 values.1) none r fin h
listed_serve_works at w V b sound s unsent quiet F service values r fin (inr (of, h, unfailed)) =
    let lists : Lists = service.lists in
    let cs : List Command = begin_of lists V in
    let inner = serve_works at.tells (asked_of at lists) (asked_of at lists)
    (asks_proper at lists) (λ U ds asked. asked) (behind (begin_of lists) w) (run cs V)
    (b.0, (V, b.1, refl)) s.turns service.port service.connections r unsent s h in
    record {
      answered = cs ++ inner.answered;
      undecided = inner.undecided;
      proper = proper-append cs inner.answered (begin_proper lists V sound values.0 values.1) inner.proper;
      last_proper = inner.last_proper;
      next = next_last inner.undecided _ _ (next_behind inner.undecided cs inner.answered _ inner.next);
      tells = inr (
        inner.answered,
        refl,
        of V b,
        turns_said at.tells (asked_of at lists) service.port service.connections (behind (begin_of lists) w) r
            unsent s quiet h,
        inner.told,
      );
      done = λ f.
          let came = all_came at.tells (asked_of at lists) service.port service.connections
          (behind (begin_of lists) w) s.turns r unsent s h (fin f) in
          (inner.answered, refl, of V b, came.0, came.1, inner.told);
      left = subst (λ X. w.left_new X (perhaps X inner.undecided)) (sym (run_append cs inner.answered V))
          inner.left;
    }
