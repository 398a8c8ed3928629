-- What a task does, by what its parts do.
use Rattle.std.proofs.Common.{◌≡◌, ℕ, List, [], true, Option, None, Result, Ok, Err}
use Rattle.std.proofs.Common.{inl, inr, length, ◌++◌}
use Rattle.std.proofs.Common.{refl, subst, sym}
use Rattle.std.specs.Prelude.{IfErr}
use Rattle.vault_engine.specs.Passing.{Passage}
use Rattle.vault_batch.specs.declared.asker.Asker.{Asker}
use Rattle.vault_listen.specs.Live.{Turns}
use Rattle.vault_listen.specs.Peers.{Event}
use Rattle.vault_live.specs.Turns.{Asking, Turn, events_in}
use Rattle.vault_listen.proofs.ServedConnections.{none_then}
use Rattle.vault_store.specs.declared.vault.Fault.{Fault}
use Rattle.vault_jobs.specs.Causes.{IsCause, IsCauseOf}
use Rattle.vault_changes.specs.Carried.{Carries}
use Rattle.vault_jobs.specs.Doing.{BeginEnds, ChangeEnds, CommandsEnd, Does, ListedServeEnds, ServeEnds}
use Rattle.vault_jobs.specs.Doing.{SetEnds, serving_of}
use Rattle.vault_jobs.specs.Doing.{SettleEnds, ShowEnds, SweepEnds, TimedSweepEnds, Works, behind}
use Rattle.vault_store.specs.declared.vault.Fault.TheVariants as vault
use Rattle.vault_changes.specs.Grants.{CarriesAll, grants_at}
use Rattle.std.specs.Global.{Vec}
use Rattle.vault_merchants.specs.ListedMerchants.{Wanted}
use Rattle.vault_rights.specs.Named.{Row}
use Rattle.vault_jobs.specs.Tasks.{BreaksBy, FailsStore, HasNoTurns, IsTaskBegun, granted_line}
use Rattle.vault_core.specs.Vault.{Vault as Content}
use Rattle.vault_jobs.specs.ListingLines.{shown_text}
use Rattle.vault_jobs.specs.declared.task.Task.{Task}
use Rattle.vault_jobs.specs.declared.task.Task.TheVariants.{Change, Give, Settle, SetMerchants, Sweep, Serve}
use Rattle.vault_jobs.specs.declared.task.Task.TheVariants.{Show}
use Rattle.vault_jobs.specs.declared.lists.Lists.{Lists}
use Rattle.vault_jobs.specs.declared.serve_task.ServeTask.{ServeTask}
use Rattle.vault_jobs.specs.declared.clock.Giver.{Giver}
use Rattle.vault_jobs.specs.declared.clock.Giver.TheVariants.{Words, Clock}
use Rattle.vault_jobs.specs.declared.show.Shown.{Shown}
use Rattle.vault_core.specs.declared.command.Command.{Command}
use Rattle.vault_jobs.specs.Lists.{asked_of, begin_of}
use Rattle.vault_jobs.specs.Notes.{IsNoted, note_of}
use Rattle.vault_jobs.specs.declared.note.Note.{Note}
use Rattle.vault_jobs.specs.Outside.{Outside}
use Rattle.vault_jobs.specs.Streams.{Known, Streams, output_with, seen_as}
use Rattle.vault_changes.specs.Carried.{Verdict}
use Rattle.vault_jobs.specs.declared.stop.Stop.{Stop}
use Rattle.vault_jobs.specs.declared.stop.Stop.TheVariants.{Vault, Service, Listener, Unread}
use Rattle.vault_jobs.specs.declared.stop.Stop.TheVariants as stop
use Rattle.vault_jobs.specs.declared.task.Outcome.{Outcome}

module _ (unsent : Type 0) (old new : Known) (s : Streams) where
  commands_caused : (P : Result Verdict Fault → Type 0) (line : List ℕ) (r : Result Outcome Stop)
      → CommandsEnd P line r (output_with unsent old new s.writer) → IfErr r (λ stop. IsCauseOf stop s)
  commands_caused P line (Ok end) h = tt
  commands_caused P line (Err (Vault f)) h = tt
  commands_caused P line (Err (Service f)) h = subst (λ e. IsCause e s.reader s.writer) (sym h.0) h.1
  commands_caused P line (Err (Listener f)) h = absurd h
  commands_caused P line (Err (Unread about f)) h = absurd h
  commands_caused P line (Err (stop.Batch f)) h = absurd h

  change_caused : (c : Command) (w : Passage) (r : Result Outcome Stop)
      → ChangeEnds c w r (output_with unsent old new s.writer) → IfErr r (λ stop. IsCauseOf stop s)
  change_caused c w r (inl h) = commands_caused (Carries c w) _ r h
  change_caused c w r (inr (f, is, silent, h, some)) =
      subst (λ e. IfErr e (λ stop. IsCauseOf stop s)) (sym is) tt

  sweep_caused : (who : Asker) (now : ℕ) (w : Passage) (r : Result Outcome Stop)
      → SweepEnds who now w r (output_with unsent old new s.writer) → IfErr r (λ stop. IsCauseOf stop s)
  sweep_caused who now w (Ok end) h = tt
  sweep_caused who now w (Err (Vault f)) h = tt
  sweep_caused who now w (Err (Service f)) h =
      subst (λ e. IsCause e s.reader s.writer) (sym h.0) h.1
  sweep_caused who now w (Err (Listener f)) h = absurd h
  sweep_caused who now w (Err (Unread about f)) h = absurd h
  sweep_caused who now w (Err (stop.Batch f)) h = absurd h

  timed_sweep_caused : (giver : Giver) (who : Asker) (now : ℕ) (w : Passage)
      (r : Result Outcome Stop) → TimedSweepEnds giver who now w r (output_with unsent old new s.writer)
      → IfErr r (λ stop. IsCauseOf stop s)
  timed_sweep_caused Words who now w r h = sweep_caused who now w r h
  timed_sweep_caused Clock who now w r (inl h) = sweep_caused who now w r h.1
  timed_sweep_caused Clock who now w r (inr (inl h)) =
      subst (λ e. IfErr e (λ stop. IsCauseOf stop s)) (sym h.0) tt
  timed_sweep_caused Clock who now w r (inr (inr (f, is, silent, h))) =
      subst (λ e. IfErr e (λ stop. IsCauseOf stop s)) (sym is) tt

  serve_caused : (tells : Turns) (asks : Asking) (port most : ℕ) (w : Passage) (r : Result Outcome Stop)
      (ts : List Turn) → ServeEnds (serving_of tells asks port most) w r (output_with unsent old new s.writer)
      ts
      → IfErr r (λ stop. IsCauseOf stop s)
  serve_caused tells asks port most w (Ok end) ts h = tt
  serve_caused tells asks port most w (Err (Vault f)) ts h = tt
  serve_caused tells asks port most w (Err (Service f)) ts (same, none, inl (is, silent)) =
      subst (λ e. IsCause e s.reader s.writer) (sym is) tt
  serve_caused tells asks port most w (Err (Service f)) ts (same, none, inr (is, failed, part)) =
      subst (λ e. IsCause e s.reader s.writer) (sym is) failed
  serve_caused tells asks port most w (Err (Listener f)) ts h = tt
  serve_caused tells asks port most w (Err (Unread about f)) ts h = absurd h
  serve_caused tells asks port most w (Err (stop.Batch f)) ts h = absurd h

  settle_caused : (now : ℕ) (rows : List Row) (w : Passage) (r : Result Outcome Stop)
      → SettleEnds now rows w r (output_with unsent old new s.writer) → IfErr r (λ stop. IsCauseOf stop s)
  settle_caused now rows w r (inl (changes, of, h)) =
      commands_caused (CarriesAll changes.commands.items w) _ r h
  settle_caused now rows w r (inr (f, is, silent, h)) =
      subst (λ e. IfErr e (λ stop. IsCauseOf stop s)) (sym is) tt

  set_caused : (now : ℕ) (rows : List Wanted) (w : Passage) (r : Result Outcome Stop)
      → SetEnds now rows w r (output_with unsent old new s.writer) → IfErr r (λ stop. IsCauseOf stop s)
  set_caused now rows w r (inl (cs, of, h)) = commands_caused (CarriesAll cs w) _ r h
  set_caused now rows w r (inr (f, is, silent, h)) =
      subst (λ e. IfErr e (λ stop. IsCauseOf stop s)) (sym is) tt

  show_caused : (text : Content → List ℕ) (w : Passage) (r : Result Outcome Stop)
      → ShowEnds text w r (output_with unsent old new s.writer) → IfErr r (λ stop. IsCauseOf stop s)
  show_caused text w (Ok end) h = tt
  show_caused text w (Err (Vault f)) h = tt
  show_caused text w (Err (Service f)) h = subst (λ e. IsCause e s.reader s.writer) (sym h.0) h.1
  show_caused text w (Err (Listener f)) h = absurd h
  show_caused text w (Err (Unread about f)) h = absurd h
  show_caused text w (Err (stop.Batch f)) h = absurd h

  begin_caused : (lists : Lists) (w : Passage) (r : Result Outcome Stop)
      → BeginEnds lists w r unsent → IfErr r (λ stop. IsCauseOf stop s)
  begin_caused lists w (Ok end) h = tt
  begin_caused lists w (Err (Vault f)) h = tt
  begin_caused lists w (Err (Service f)) h = absurd h
  begin_caused lists w (Err (Listener f)) h = absurd h
  begin_caused lists w (Err (Unread about f)) h = absurd h
  begin_caused lists w (Err (stop.Batch f)) h = absurd h

  listed_caused : (at : Outside) (port most : ℕ) (lists : Lists) (w : Passage)
      (r : Result Outcome Stop) (ts : List Turn)
      → ListedServeEnds (serving_of at.tells (asked_of at lists) port most) lists w r
      (output_with unsent old new s.writer) ts
      → IfErr r (λ stop. IsCauseOf stop s)
  listed_caused at port most lists w r ts (inl h) = begin_caused lists w r h.2
  listed_caused at port most lists w r ts (inr h) =
      serve_caused at.tells (asked_of at lists) port most (behind (begin_of lists) w) r ts h.1

-- a store that fails a read breaks the vault
show_breaks : (text : Content → List ℕ) (w : Passage) (unsent : Type 0) (s : Streams)
    (r : Result Outcome Stop) → ShowEnds text w r (output_with unsent s.sent_old s.sent_new s.writer)
    → FailsStore r
    → w.broken ≡ true
show_breaks text w unsent s (Ok end) h store = absurd store
show_breaks text w unsent s (Err (Vault vault.Memory)) h store = absurd (cc store)
show_breaks text w unsent s (Err (Vault vault.Store)) h store = h.1.0
show_breaks text w unsent s (Err (Vault vault.Reopen)) h store = absurd h.1
show_breaks text w unsent s (Err (Service f)) h store = let is = h.0 in absurd (cc (is, store))
show_breaks text w unsent s (Err (Listener f)) h store = absurd h
show_breaks text w unsent s (Err (Unread about f)) h store = absurd h
show_breaks text w unsent s (Err (stop.Batch f)) h store = absurd h

-- there was no turn
pub unlinked : (tells : List Event → Type 0) (P : List Turn → Type 0) → P []
    → (turns : List Turn) × ((log : List Event) → tells log → tells (log ++ events_in turns)) × P turns
unlinked tells P done = ([], none_then tells, done)

-- of these tasks nothing is noted
unnoted : (w : Passage) (r : Result Outcome Stop) (task : Task) → ((V : Content) → note_of task V ≡ None)
    → IsNoted task w r None
unnoted w r task none = record { fits = tt; exact = λ done V b. sym (none V) }

module _ {at : Outside} {w : Passage} {r : Result Outcome Stop} {unread unsent : Type 0}
    {s : Streams} where
  -- a task by what it does
  pub task_done : {task : Task} → ((V : Content) → note_of task V ≡ None)
      → Works at task w r (seen_as unread unsent s) → IsTaskBegun task unread
      → HasNoTurns task s → IfErr r (λ stop. IsCauseOf stop s) → BreaksBy task r w.broken
      → Does at task w r None (seen_as unread unsent s)
  task_done {task = task} never h calm none caused breaks = record {
    works = h;
    noted = unnoted w r task never;
    begun = calm;
    alone = none;
    caused = caused;
    breaks = breaks;
  }

  pub change_done : (c : Command) (it : Option Note) → unread → s.turns ≡ []
      → (w.broken ≡ true → FailsStore r) → IsNoted (Change c) w r it
      → Works at (Change c) w r (seen_as unread unsent s) → Does at (Change c) w r it
      (seen_as unread unsent s)
  change_done c it calm none breaks noted h = record {
    works = h;
    noted = noted;
    begun = calm;
    alone = none;
    caused = change_caused unsent s.sent_old s.sent_new s c w r h;
    breaks = (breaks, λ _. inr tt);
  }

  pub give_done : (rows : Vec Row) (now then : ℕ) (listed : List Row) → listed ≡ rows.items → then ≡ now
      → unread
      → s.turns ≡ [] → (w.broken ≡ true → FailsStore r)
      → CommandsEnd (CarriesAll (grants_at then listed) w) (granted_line (length listed)) r
      (output_with unsent s.sent_old s.sent_new s.writer)
      → Does at (Give rows now) w r None (seen_as unread unsent s)
  give_done rows now then listed same is calm none breaks h =
      let works : Works at (Give rows now) w r (seen_as unread unsent s) =
      subst (λ xs. CommandsEnd (CarriesAll (grants_at now xs) w) (granted_line (length xs)) r
      (output_with unsent s.sent_old s.sent_new s.writer)) same
      (subst (λ n. CommandsEnd (CarriesAll (grants_at n listed) w) (granted_line (length listed)) r
      (output_with unsent s.sent_old s.sent_new s.writer)) is h) in
      record {
        works = works;
        noted = unnoted w r (Give rows now) (λ V. refl);
        begun = calm;
        alone = none;
        caused = commands_caused unsent s.sent_old s.sent_new s
            (CarriesAll (grants_at now rows.items) w) _ r works;
        breaks = (breaks, λ _. inr tt);
      }

  pub sweep_done : (who : Asker) (now : ℕ) (giver : Giver) (it : Option Note) → unread → s.turns ≡ []
      → (w.broken ≡ true → FailsStore r) → IsNoted (Sweep who now giver) w r it
      → Works at (Sweep who now giver) w r (seen_as unread unsent s)
      → Does at (Sweep who now giver) w r it (seen_as unread unsent s)
  sweep_done who now giver it calm none breaks noted h = record {
    works = h;
    noted = noted;
    begun = calm;
    alone = none;
    caused = timed_sweep_caused unsent s.sent_old s.sent_new s giver who now w r h;
    breaks = (breaks, λ _. inr tt);
  }

  pub serve_done : (it : ServeTask) → unread → BreaksBy (Serve it) r w.broken
      → Works at (Serve it) w r (seen_as unread unsent s)
      → Does at (Serve it) w r None (seen_as unread unsent s)
  serve_done it calm breaks h = record {
    works = h;
    noted = unnoted w r (Serve it) (λ V. refl);
    begun = calm;
    alone = tt;
    caused = listed_caused unsent s.sent_old s.sent_new s at it.port it.connections it.lists w r s.turns h;
    breaks = breaks;
  }

  pub settle_done : (rows : Vec Row) (now : ℕ) (listed : List Row) → listed ≡ rows.items → unread
      → s.turns ≡ [] → (w.broken ≡ true → FailsStore r)
      → SettleEnds now listed w r (output_with unsent s.sent_old s.sent_new s.writer)
      → Does at (Settle rows now) w r None (seen_as unread unsent s)
  settle_done rows now listed same calm none breaks h =
      let works : Works at (Settle rows now) w r (seen_as unread unsent s) =
      subst (λ xs. SettleEnds now xs w r (output_with unsent s.sent_old s.sent_new s.writer)) same h in
      record {
        works = works;
        noted = unnoted w r (Settle rows now) (λ V. refl);
        begun = calm;
        alone = none;
        caused = settle_caused unsent s.sent_old s.sent_new s now rows.items w r works;
        breaks = (breaks, λ _. inr tt);
      }

  pub set_done : (rows : Vec Wanted) (now : ℕ) (listed : List Wanted) → listed ≡ rows.items → unread
      → s.turns ≡ [] → (w.broken ≡ true → FailsStore r)
      → SetEnds now listed w r (output_with unsent s.sent_old s.sent_new s.writer)
      → Does at (SetMerchants rows now) w r None (seen_as unread unsent s)
  set_done rows now listed same calm none breaks h =
      let works : Works at (SetMerchants rows now) w r (seen_as unread unsent s) =
      subst (λ xs. SetEnds now xs w r (output_with unsent s.sent_old s.sent_new s.writer)) same h in
      record {
        works = works;
        noted = unnoted w r (SetMerchants rows now) (λ V. refl);
        begun = calm;
        alone = none;
        caused = set_caused unsent s.sent_old s.sent_new s now rows.items w r works;
        breaks = (breaks, λ _. inr tt);
      }

  pub show_done : (it : Shown) → unread → s.turns ≡ [] → (w.broken ≡ true → FailsStore r)
      → Works at (Show it) w r (seen_as unread unsent s)
      → Does at (Show it) w r None (seen_as unread unsent s)
  show_done it calm none breaks h = record {
    works = h;
    noted = unnoted w r (Show it) (λ V. refl);
    begun = calm;
    alone = none;
    caused = show_caused unsent s.sent_old s.sent_new s (shown_text it) w r h;
    breaks = (breaks, λ store. inl (show_breaks (shown_text it) w unsent s r h store));
  }
