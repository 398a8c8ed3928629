-- A whole task in one passage, and in any that refines it.
use Rattle.std.proofs.Common.{◌≡◌, ℕ, List, Bool, Option, Result, Ok, Err, inl, inr}
use Rattle.vault_core.specs.Vault.{Vault as Content}
use Rattle.vault_engine.specs.Passing.{IsBefore, Keeps, Passage}
use Rattle.vault_batch.specs.declared.asker.Asker.{Asker}
use Rattle.vault_listen.specs.Live.{AreGiven, Turns}
use Rattle.vault_live.specs.Turns.{Turn}
use Rattle.vault_core.specs.Runs.{run}
use Rattle.vault_jobs.specs.Doing.{BatchEnds, Does, serving_of}
use Rattle.vault_jobs.specs.Doing.{ListedServeEnds, PipeEnds}
use Rattle.vault_jobs.specs.Doing.{Works, behind}
use Rattle.vault_jobs.specs.ListingLines.{shown_text}
use Rattle.vault_changes.specs.Grants.{grants_at}
use Rattle.vault_jobs.specs.Lists.{asked_of, begin_of}
use Rattle.vault_jobs.specs.Outside.{Outside}
use Rattle.vault_jobs.specs.Streams.{Known, Streams, output_with, seen_as}
use Rattle.vault_jobs.specs.declared.stop.Stop.{Stop}
use Rattle.vault_jobs.specs.declared.stop.Stop.TheVariants.{Vault, Service, Listener, Unread}
use Rattle.vault_jobs.specs.declared.stop.Stop.TheVariants as stop
use Rattle.vault_jobs.specs.declared.task.Outcome.{Outcome}
use Rattle.vault_jobs.specs.declared.task.Outcome.TheVariants as outcome
use Rattle.vault_jobs.specs.declared.task.Task.{Task}
use Rattle.vault_jobs.specs.declared.task.Task.TheVariants.{Change, Give, Settle, SetMerchants, Sweep, Batch}
use Rattle.vault_jobs.specs.declared.task.Task.TheVariants.{Pipe, Serve, Show}
use Rattle.vault_jobs.specs.declared.lists.Lists.{Lists}
use Rattle.vault_jobs.specs.declared.note.Note.{Note}
use Rattle.vault_changes.proofs.Refining.{carries_all, over}
use Rattle.vault_jobs.proofs.RefinedPassages.{batched, begin_ends, change_ends, commands_end}
use Rattle.vault_jobs.proofs.RefinedPassages.{piped, serve_ends}
use Rattle.vault_jobs.proofs.RefinedPassages.{set_ends, settle_ends, show_ends, stops_batch, stops_piping}
use Rattle.vault_jobs.proofs.RefinedPassages.{timed_sweep_ends, untouched}

module _ (H : Type 0) (O N : Content → Type 0) (L : Content → Content → Type 0) (w : Passage)
    (was : (V : Content) → H → O V → IsBefore w V)
    (kept : H → (V : Content) → Keeps w V → N V × L V V)
    (torn : H → (V W : Content) → w.left_new V W → L V W) (s : Streams) where
  -- a service that may follow lists
  listed_serve_ends : (at : Outside) (port n : ℕ) (lists : Lists)
      (r : Result Outcome Stop) (unsent : Type 0) (old new : Known) (writer : Bool) (ts : List Turn)
      → ListedServeEnds (serving_of at.tells (asked_of at lists) port n) lists w r
      (output_with unsent old new writer) ts
      → ListedServeEnds (serving_of at.tells (asked_of at lists) port n) lists (over H O N L w) r
      (output_with unsent old new writer) ts
  listed_serve_ends at port n lists r unsent old new writer ts (inl (some, none, h)) =
      inl (some, none, begin_ends H O N L w was kept torn lists r unsent h)
  listed_serve_ends at port n lists r unsent old new writer ts (inr (of, h, unfailed)) = inr (
    λ V b. of V (was V b.0 b.1),
    serve_ends H (λ U. (V : Content) × O V × (U ≡ run (begin_of lists V) V)) N L
        (behind (begin_of lists) w)
        (λ U honest (V, held, is). let b = was V honest held in (b.0, (V, b.1, is)))
        kept torn at.tells (asked_of at lists) port n r unsent old new writer ts h,
    unfailed,
  )

  batch_ends : (tells : Turns) (who : Asker) (now : Option ℕ) (digits : Option (List ℕ))
      (r : Result Outcome Stop)
      (unread unsent : Type 0) → BatchEnds (AreGiven tells now digits) who w r (seen_as unread unsent s)
      → BatchEnds (AreGiven tells now digits) who (over H O N L w) r (seen_as unread unsent s)
  batch_ends tells who now digits (Ok outcome.Done) unread unsent
      (calm, counts, none, end, (pairs, few, fixed, h)) =
      (calm, counts, none, end, (pairs, few, fixed, batched H O N L _ was kept torn s.left_old who counts h))
  batch_ends tells who now digits (Ok (outcome.Refused n)) unread unsent h = h
  batch_ends tells who now digits (Ok outcome.SomeRefused) unread unsent
      (calm, counts, some, end, (pairs, few, fixed, h)) =
      (calm, counts, some, end, (pairs, few, fixed, batched H O N L _ was kept torn s.left_old who counts h))
  batch_ends tells who now digits (Err (Vault f)) unread unsent h = h
  batch_ends tells who now digits (Err (Service f)) unread unsent h = h
  batch_ends tells who now digits (Err (Listener f)) unread unsent h = h
  batch_ends tells who now digits (Err (Unread about f)) unread unsent h = h
  batch_ends tells who now digits (Err (stop.Batch f)) unread unsent (inl (is, calm, silent, same)) =
      inl (is, calm, silent, untouched H O N L w was kept torn same)
  batch_ends tells who now digits (Err (stop.Batch f)) unread unsent (inr (pairs, few, fixed, h)) =
      inr (pairs, few, fixed, stops_batch H O N L _ was kept torn s.left_old who f h)

  pipe_ends : (tells : Turns) (now : Option ℕ) (digits : Option (List ℕ)) (r : Result Outcome Stop)
      (unread unsent : Type 0) → PipeEnds (AreGiven tells now digits) w r (seen_as unread unsent s)
      → PipeEnds (AreGiven tells now digits) (over H O N L w) r (seen_as unread unsent s)
  pipe_ends tells now digits (Ok outcome.Done) unread unsent (calm, (pairs, few, fixed, h)) =
      (calm, (pairs, few, fixed, piped H O N L _ was kept torn s.left_old s.left_new h))
  pipe_ends tells now digits (Ok (outcome.Refused n)) unread unsent h = h
  pipe_ends tells now digits (Ok outcome.SomeRefused) unread unsent h = h
  pipe_ends tells now digits (Err (Vault f)) unread unsent h = h
  pipe_ends tells now digits (Err (Service f)) unread unsent (inl (is, calm, silent, same)) =
      inl (is, calm, silent, untouched H O N L w was kept torn same)
  pipe_ends tells now digits (Err (Service f)) unread unsent (inr (pairs, few, fixed, h)) =
      inr (pairs, few, fixed, stops_piping H O N L _ was kept torn s.left_old s.left_new f h)
  pipe_ends tells now digits (Err (Listener f)) unread unsent h = h
  pipe_ends tells now digits (Err (Unread about f)) unread unsent h = h
  pipe_ends tells now digits (Err (stop.Batch f)) unread unsent h = h

  works : (at : Outside) (task : Task) (r : Result Outcome Stop) (unread unsent : Type 0)
      → Works at task w r (seen_as unread unsent s)
      → Works at task (over H O N L w) r (seen_as unread unsent s)
  works at (Change c) r unread unsent h =
      change_ends H O N L w was kept torn c r unsent _ _ _ h
  works at (Give rows now) r unread unsent h =
      commands_end H O N L w was kept torn _ _
      (carries_all H O N L w was kept torn (grants_at now rows.items)) _ r unsent _ _ _ h
  works at (Settle rows now) r unread unsent h =
      settle_ends H O N L w was kept torn now rows.items r unsent _ _ _ h
  works at (SetMerchants rows now) r unread unsent h =
      set_ends H O N L w was kept torn now rows.items r unsent _ _ _ h
  works at (Sweep who now giver) r unread unsent h =
      timed_sweep_ends H O N L w was kept torn giver who now r unsent _ _ _ h
  works at (Batch who now digits) r unread unsent h =
      batch_ends at.tells who now digits r unread unsent h
  works at (Pipe now digits) r unread unsent h = pipe_ends at.tells now digits r unread unsent h
  works at (Serve it) r unread unsent h =
      listed_serve_ends at it.port it.connections it.lists r unsent _ _ _ _ h
  works at (Show it) r unread unsent h =
      show_ends H O N L w was kept torn (shown_text it) r unsent _ _ _ h

  pub refined : (at : Outside) (task : Task) (r : Result Outcome Stop) (it : Option Note)
      (unread unsent : Type 0) → Does at task w r it (seen_as unread unsent s)
      → Does at task (over H O N L w) r it (seen_as unread unsent s)
  refined at task r it unread unsent h = record {
    works = works at task r unread unsent h.works;
    noted = record { fits = h.noted.fits; exact = λ done V b. h.noted.exact done V (was V b.0 b.1) };
    begun = h.begun;
    alone = h.alone;
    caused = h.caused;
    breaks = h.breaks;
  }
