-- What a sweep answered, and what it left undecided.
use Rattle.std.proofs.Common.{◌≡◌, ◌⊎◌, ℕ, ◌≤◌, List, [], ◌∷◌, ◌++◌, length}
use Rattle.std.proofs.Common.{Some, None, Result, Ok, Err, inl, inr, refl, ap, subst, ◌∙◌, arith}
use Rattle.std.proofs.Common.{append-nil}
use Rattle.std.proofs.lemmas.List.{map-append}
use Rattle.vault_core.proofs.StaysSound.{sound-after, stays_sound}
use Rattle.vault_core.specs.Dead.{dead_tokens}
use Rattle.vault_core.specs.Keys.{Bytes}
use Rattle.vault_core.specs.Name.{IsName}
use Rattle.vault_core.specs.Proper.{AllProper, IsProper}
use Rattle.vault_core.specs.Runs.{run}
use Rattle.vault_core.specs.Scalar.{IsMoment}
use Rattle.vault_core.specs.Sound.{Sound}
use Rattle.vault_core.specs.Table.{after, reply}
use Rattle.vault_core.specs.Vault.{Vault as Content}
use Rattle.vault_core.specs.declared.command.Command.{Command}
use Rattle.vault_core.specs.declared.reply.Reply.{Reply}
use Rattle.vault_core.specs.declared.reply.Reply.TheVariants as answer
use Rattle.vault_batch.specs.declared.asker.Asker.{Asker}
use Rattle.vault_engine.specs.Passing.{IsBefore, Passage}
use Rattle.vault_store.specs.declared.vault.Fault.TheVariants.{Memory, Store, Reopen}
use Rattle.vault_changes.proofs.GivenRights.{run_more}
use Rattle.vault_changes.proofs.Purging.{first_dead, purged_first}
use Rattle.vault_jobs.specs.Ahead.{MaySweep}
use Rattle.vault_jobs.specs.Doing.{SweepEnds, TimedSweepEnds}
use Rattle.vault_changes.specs.Grants.{AreDone}
use Rattle.vault_jobs.specs.Outside.{Outside}
use Rattle.vault_jobs.specs.Streams.{Streams, output_with}
use Rattle.vault_jobs.specs.Sweeps.{AreSwept, Begin, left_dead, purge_at, purges_at, swept_vault}
use Rattle.vault_jobs.specs.declared.clock.Giver.{Giver}
use Rattle.vault_jobs.specs.declared.clock.Giver.TheVariants.{Words, Clock}
use Rattle.vault_jobs.specs.declared.stop.Stop.{Stop}
use Rattle.vault_jobs.specs.declared.stop.Stop.TheVariants as stop
use Rattle.vault_jobs.specs.declared.task.Outcome.{Outcome as Ended}
use Rattle.vault_jobs.specs.declared.task.Outcome.TheVariants as outcome
use Rattle.vault_promise.proofs.SettledRights.{unread_works}
use Rattle.vault_jobs.specs.Tasks.{purged_line}
use Rattle.vault_promise.proofs.TaskAnswers.{Works, part_of}
use Rattle.vault_promise.specs.Shapes.Shape.{Purges}
use Rattle.vault_promise.specs.Told.{IsQuiet, Tells, WentAll, WentPart}

-- the parts of equal lists
heads : (x y : Reply) (xs ys : List Reply) → x ∷ xs ≡ y ∷ ys → (x ≡ y) × (xs ≡ ys)
heads x y xs ys h = (cc, cc)

module _ (who : Asker) (now : ℕ) (named : IsName who.caller) (at : IsName who.merchant)
    (moment : IsMoment now) where
  -- the purge of the first dead token is proper
  first_proper : (V : Content) (token : Bytes) (rest : List Bytes) → Sound V
      → dead_tokens V who.merchant now ≡ token ∷ rest → IsProper (purge_at who now token)
  first_proper V token rest sound dead =
      let it = first_dead V who.caller who.merchant token now rest dead in
      (named, at, (sound.entries who.merchant token it.0 it.1).2.token_fails, moment)

  -- and so are those of all that are done one after the other
  swept_proper : (tokens rest : List Bytes) (V : Content) → Sound V
      → AreDone (length tokens) (purges_at who now tokens) V
      → dead_tokens V who.merchant now ≡ tokens ++ rest → AllProper (purges_at who now tokens)
  swept_proper [] rest V sound done dead = tt
  swept_proper (token ∷ tokens) rest V sound done dead =
      let c : Command = purge_at who now token in
      let both = heads (reply V c) answer.Done _ _ done in
      let proper = first_proper V token (tokens ++ rest) sound dead in (
        proper,
        swept_proper tokens rest (after V c) (sound-after V sound c proper) both.1
            (purged_first V who.caller who.merchant token now (tokens ++ rest) dead both.0),
      )

  module _ (at_all : Outside) (w : Passage) (V : Content) (b : IsBefore w V) (sound : Sound V) (s : Streams)
      (unsent : Type 0) (quiet : unsent → IsQuiet s) (F : Type 0) where
    -- a sweep that may begin
    module _ (giver : Giver) (may : MaySweep giver V who.merchant now) where
      -- purges that are done, and nothing else
      purged : (tokens : List Bytes) → AreSwept who now tokens V
          → w.left_new (swept_vault who now tokens V) (swept_vault who now tokens V)
          → IsQuiet s ⊎ (left_dead who now tokens V ≡ []) × WentPart s (purged_line (length tokens))
          → (F → (left_dead who now tokens V ≡ []) × WentAll s (purged_line (length tokens)))
          → Works at_all w V (Purges who now giver) F s
      purged tokens swept left told none = record {
        answered = purges_at who now tokens;
        undecided = None;
        proper = swept_proper tokens (left_dead who now tokens V) V sound swept.0 swept.1;
        last_proper = tt;
        tells = (tokens, refl, swept, by_told told, inr may);
        next = tt;
        done = λ f. (may, (tokens, refl, (none f).0, (none f).1));
        left = left;
      }
        where
          by_told : IsQuiet s ⊎ (left_dead who now tokens V ≡ []) × WentPart s (purged_line (length tokens))
              → IsQuiet s ⊎ (left_dead who now tokens V ≡ []) × MaySweep giver V who.merchant now
              × WentPart s (purged_line (length tokens))
          by_told (inl calm) = inl calm
          by_told (inr (none, part)) = inr (none, may, part)

      -- one more at most, which is undecided
      torn : (tokens next : List Bytes) → length next ≤ 1 → AreSwept who now tokens V
          → Begin next (left_dead who now tokens V)
          → w.left_new (swept_vault who now tokens V) (swept_vault who now (tokens ++ next) V) → IsQuiet s
          → ¬ F → Works at_all w V (Purges who now giver) F s
      torn tokens [] few swept begins left calm undone =
          purged tokens swept
          (subst (λ ts. w.left_new (swept_vault who now tokens V) (swept_vault who now ts V))
          (append-nil tokens) left) (inl calm) (λ f. absurd (undone f))
      torn tokens (token ∷ []) few swept begins left calm undone =
          let proper = swept_proper tokens (left_dead who now tokens V) V sound swept.0 swept.1 in
          let U : Content = swept_vault who now tokens V in
          record {
            answered = purges_at who now tokens;
            undecided = Some (purge_at who now token);
            proper = proper;
            last_proper = first_proper U token begins.0
                (stays_sound V (purges_at who now tokens) sound proper) begins.1;
            tells = (tokens, refl, swept, inl calm, inr may);
            next = (tokens, token, refl, refl, begins);
            done = λ f. absurd (undone f);
            left = subst (λ W. w.left_new U W)
                (ap (λ ds. run ds V) (map-append (λ t. purge_at who now t) tokens (token ∷ []))
                ∙ run_more (purges_at who now tokens) (purge_at who now token) V) left;
          }
      torn tokens (token ∷ other ∷ more) few swept begins left calm undone = absurd (omega (arith, few))

      sweep_works : (r : Result Ended Stop) → (F → r ≡ Ok outcome.Done)
          → SweepEnds who now w r (output_with unsent s.sent_old s.sent_new s.writer)
          → Works at_all w V (Purges who now giver) F s
      sweep_works (Ok outcome.Done) fin h =
          let it = h.1.1.1 V b in
          let went = subst (λ n. WentAll s (purged_line n)) it.2 h.1.2 in
          purged h.1.1.0 it.0 it.3.1 (inr (it.1, part_of s (purged_line (length h.1.1.0)) went))
          (λ f. (it.1, went))
      sweep_works (Ok (outcome.Refused n)) fin h =
          let it = h.1.2 V b in
          purged h.1.0 it.0 it.3.1 (inl (quiet h.0)) (λ f. absurd (cc (fin f)))
      sweep_works (Ok outcome.SomeRefused) fin h = absurd h
      sweep_works (Err (stop.Vault Memory)) fin h =
          let it = h.1.1 V b in
          purged h.1.0 it.0 it.1.1 (inl (quiet h.0)) (λ f. absurd (cc (fin f)))
      sweep_works (Err (stop.Vault Store)) fin h =
          let it = h.1.3 V b in
          torn h.1.0 h.1.1 h.1.2 it.1 it.2 it.3 (quiet h.0) (λ f. cc (fin f))
      sweep_works (Err (stop.Vault Reopen)) fin h = absurd h.1
      sweep_works (Err (stop.Service f)) fin h =
          let it = h.2.1.1 V b in
          purged h.2.1.0 it.0 it.3.1 (inr (it.1, subst (λ n. WentPart s (purged_line n)) it.2 h.2.2))
          (λ d. absurd (cc (fin d)))
      sweep_works (Err (stop.Listener f)) fin h = absurd h
      sweep_works (Err (stop.Unread about f)) fin h = absurd h
      sweep_works (Err (stop.Batch f)) fin h = absurd h

    -- one that may not, or whose merchant wasn't read
    none_swept : (giver : Giver) → unsent → Tells at_all (Purges who now giver) V [] s
    none_swept giver silent = ([], refl, (refl, refl), inl (quiet silent), inl refl)

    pub timed_sweep_works : (giver : Giver) (r : Result Ended Stop)
        → (F → r ≡ Ok outcome.Done)
        → TimedSweepEnds giver who now w r (output_with unsent s.sent_old s.sent_new s.writer)
        → Works at_all w V (Purges who now giver) F s
    timed_sweep_works Words r fin h = sweep_works Words tt r fin h
    timed_sweep_works Clock r fin (inl (near, h)) = sweep_works Clock (near V b) r fin h
    timed_sweep_works Clock r fin (inr (inl (is, silent, same, far))) =
        unread_works at_all w V b sound s unsent quiet F (Purges who now Clock) (none_swept Clock silent)
        (λ f. cc (is, fin f)) Memory same
    timed_sweep_works Clock r fin (inr (inr (f, is, silent, h))) =
        unread_works at_all w V b sound s unsent quiet F (Purges who now Clock) (none_swept Clock silent)
        (λ d. cc (is, fin d)) f h
