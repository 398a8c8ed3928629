-- What a task does in one passage it does in any that refines it: where what was before and what is kept is
-- said of other things, as of files in place of tables.
use Rattle.std.proofs.Common.{ℕ, List, [], Bool, Result, Ok, Err, inl, inr}
use Rattle.vault_core.specs.Vault.{Vault as Content}
use Rattle.vault_core.specs.declared.command.Command.{Command}
use Rattle.vault_wire.specs.Parts.{Parts}
use Rattle.vault_engine.specs.Answered.{Answered, AnsweredBefore, CutAt, SilentAt, UndecidedAt}
use Rattle.vault_engine.specs.Asking.{Asked, Kind}
use Rattle.vault_engine.specs.Within.{FirstOf, StopsWithin}
use Rattle.vault_http.specs.Exchanges.{message_kind}
use Rattle.vault_engine.specs.Passing.{IsBefore, Keeps, Passage}
use Rattle.vault_http.specs.Served.{IsServed, IsStopped}
use Rattle.vault_engine.specs.declared.stop.Stop.{Stop as ServeFault}
use Rattle.vault_engine.specs.declared.stop.Stop.TheVariants as fault
use Rattle.vault_http.specs.declared.served.Served.{Served}
use Rattle.vault_batch.specs.Asking.{rows_by}
use Rattle.vault_batch.specs.Stops as batch
use Rattle.vault_batch.specs.declared.asker.Asker.{Asker}
use Rattle.vault_batch.specs.declared.row_counts.Counts.{Counts}
use Rattle.vault_batch.specs.declared.fault.BatchFault.{BatchFault}
use Rattle.vault_batch.specs.declared.fault.BatchFault.TheVariants as row
use Rattle.vault_listen.specs.Live.{Turns}
use Rattle.vault_live.specs.Turns.{AllKept, Asking, Leaves, OneUndecided, Turn}
use Rattle.vault_live.specs.Turns.Turn.{Lost, Served as Linked, Attended}
use Rattle.vault_listen.specs.declared.fault.ListenFault.{ListenFault}
use Rattle.vault_listen.specs.declared.fault.ListenFault.TheVariants as listen
use Rattle.vault_merchants.specs.ListedMerchants.{Wanted}
use Rattle.vault_rights.specs.Named.{Row}
use Rattle.vault_store.specs.declared.vault.Fault.{Fault}
use Rattle.vault_store.specs.declared.vault.Fault.TheVariants.{Memory, Store, Reopen}
use Rattle.vault_jobs.specs.Batched.{StopsBatch}
use Rattle.vault_changes.specs.Carried.{Carries}
use Rattle.vault_changes.proofs.Refining.{carries_all, over}
use Rattle.vault_changes.specs.Settling.{FailsToRead, IsUntouched}
use Rattle.vault_jobs.specs.Beginning.{CarriesOut, CarriesTo}
use Rattle.vault_jobs.specs.Doing.{BeginEnds, ChangeEnds, CommandsEnd, serving_of}
use Rattle.vault_jobs.specs.Lists.{begin_of}
use Rattle.vault_jobs.specs.declared.lists.Lists.{Lists}
use Rattle.vault_jobs.specs.Doing.{ServeEnds, SetEnds, SettleEnds, ShowEnds}
use Rattle.vault_jobs.specs.Doing.{SweepEnds, TimedSweepEnds}
use Rattle.vault_jobs.specs.Piped.{IsPiped, StopsPiping}
use Rattle.vault_jobs.specs.Streams.{Known, output_with}
use Rattle.vault_jobs.specs.Sweeps.{Sweeps}
use Rattle.vault_jobs.specs.declared.clock.Giver.{Giver}
use Rattle.vault_jobs.specs.declared.clock.Giver.TheVariants.{Words, Clock}
use Rattle.vault_changes.specs.Carried.{Verdict}
use Rattle.vault_jobs.specs.declared.stop.Stop.{Stop}
use Rattle.vault_jobs.specs.declared.stop.Stop.TheVariants.{Vault, Service, Listener, Unread}
use Rattle.vault_jobs.specs.declared.stop.Stop.TheVariants as stop
use Rattle.vault_jobs.specs.declared.task.Outcome.{Outcome}
use Rattle.vault_jobs.specs.declared.task.Outcome.TheVariants as outcome

-- of the first units this is known too
first_as : {X : Type 0} {us rest : List X} {K L : List (Asked X) → Type 0}
    → ((xs : List (Asked X)) → K xs → L xs) → FirstOf us rest K → FirstOf us rest L
first_as up s = record { exchanges = s.exchanges; whole = s.whole; known = up s.exchanges s.known }

module _ (H : Type 0) (O N : Content → Type 0) (L : Content → Content → Type 0) (w : Passage)
    (was : (V : Content) → H → O V → IsBefore w V)
    (kept : H → (V : Content) → Keeps w V → N V × L V V)
    (torn : H → (V W : Content) → w.left_new V W → L V W) where
  pub untouched : IsUntouched w → IsUntouched (over H O N L w)
  untouched same V b = kept b.0 V (same V (was V b.0 b.1))

  pub carries : (c : Command) (r : Result Verdict Fault) → Carries c w r
      → Carries c (over H O N L w) r
  carries c (Ok v) h = λ V b. let it = h V (was V b.0 b.1) in (it.0, kept b.0 _ it.1)
  carries c (Err Memory) h = λ V b. kept b.0 _ (h V (was V b.0 b.1))
  carries c (Err Store) h = (
    λ is V b. torn b.0 _ _ (h.0 is V (was V b.0 b.1)),
    λ is V b. let it = h.1 is V (was V b.0 b.1) in (it.0, kept b.0 _ it.1),
  )
  carries c (Err Reopen) h = absurd h

  sweeps : (who : Asker) (now : ℕ) (r : Result (Result ℕ ℕ) Fault) → Sweeps who now w r
      → Sweeps who now (over H O N L w) r
  sweeps who now (Ok (Ok count)) (tokens, h) =
      (tokens, λ V b. let it = h V (was V b.0 b.1) in (it.0, it.1, it.2, kept b.0 _ it.3))
  sweeps who now (Ok (Err n)) (tokens, next, h) =
      (tokens, next, λ V b. let it = h V (was V b.0 b.1) in (it.0, it.1, it.2, kept b.0 _ it.3))
  sweeps who now (Err Memory) (tokens, h) =
      (tokens, λ V b. let it = h V (was V b.0 b.1) in (it.0, kept b.0 _ it.1))
  sweeps who now (Err Store) (tokens, next, few, h) = (
    tokens,
    next,
    few,
    λ V b. let it = h V (was V b.0 b.1) in
        (it.0, it.1, it.2, torn b.0 _ _ it.3),
  )
  sweeps who now (Err Reopen) h = absurd h

  all_kept : (tells : Turns) (asks : Asking) (ts : List Turn) → AllKept tells asks ts w
      → AllKept tells asks ts (over H O N L w)
  all_kept tells asks ts h = λ V b. let it = h V (was V b.0 b.1) in (it.0, it.1, kept b.0 _ it.2)

  one_undecided : (tells : Turns) (asks : Asking) (first : List Turn) (last : Turn)
      → OneUndecided tells asks first last w → OneUndecided tells asks first last (over H O N L w)
  one_undecided tells asks first Lost h = h
  one_undecided tells asks first (Linked x) (failed, h) =
      (failed, λ V b. let it = h V (was V b.0 b.1) in (it.0, it.1, it.2, it.3, it.4, torn b.0 _ _ it.5))
  one_undecided tells asks first (Attended cs news) (calm, (next, few, h)) = (
    calm,
    (next, few, λ V b. let it = h V (was V b.0 b.1) in (it.0, it.1, it.2, torn b.0 _ _ it.3)),
  )

  leaves : (tells : Turns) (asks : Asking) (n : ℕ) (ts : List Turn) (f : ListenFault)
      → Leaves tells asks n ts w (Err f) → Leaves tells asks n ts (over H O N L w) (Err f)
  leaves tells asks n ts listen.Source (few, h) = (few, all_kept tells asks ts h)
  leaves tells asks n ts listen.Store (few, (first, last, are, h)) =
      (few, (first, last, are, one_undecided tells asks first last h))
  leaves tells asks n ts listen.Memory (few, (none, h)) = (few, (none, all_kept tells asks [] h))
  leaves tells asks n ts listen.Accept (few, h) = (few, all_kept tells asks ts h)

  answered : {X : Type 0} (k : Kind X) (first : List ℕ) (xs : List (Asked X)) → Answered k first w xs
      → Answered k first (over H O N L w) xs
  answered k first xs s = record {
    taken = s.taken;
    asked = s.asked;
    answered = λ V b. let it = s.answered V (was V b.0 b.1) in (it.0, kept b.0 _ it.1);
  }

  before_one : {X : Type 0} (k : Kind X) (first : List ℕ) (xs : List (Asked X))
      → AnsweredBefore k first w xs → AnsweredBefore k first (over H O N L w) xs
  before_one k first xs s = record {
    unused = s.unused;
    one = s.one;
    taken = s.taken;
    asked = s.asked;
    answered = λ V b. let it = s.answered V (was V b.0 b.1) in (it.0, kept b.0 _ it.1);
  }

  cut_one : {X : Type 0} (k : Kind X) (first : List ℕ) (x : Asked X) (xs : List (Asked X))
      → CutAt k first w xs x → CutAt k first (over H O N L w) xs x
  cut_one k first x xs s = record {
    sent = s.sent;
    taken = s.taken;
    asked = s.asked;
    answered = λ V b. let it = s.answered V (was V b.0 b.1) in (it.0, it.1, kept b.0 _ it.2);
  }

  undecided_one : {X : Type 0} (k : Kind X) (first : List ℕ) (x : Asked X) (xs : List (Asked X))
      → UndecidedAt k first w xs x → UndecidedAt k first (over H O N L w) xs x
  undecided_one k first x xs s = record {
    taken = s.taken;
    asked = s.asked;
    answered = λ V b. let it = s.answered V (was V b.0 b.1) in (it.0, torn b.0 _ _ it.1);
  }

  silent_one : {X : Type 0} (k : Kind X) (first : List ℕ) (x : Asked X) (xs : List (Asked X))
      → SilentAt k first w xs x → SilentAt k first (over H O N L w) xs x
  silent_one k first x xs s = record {
    taken = s.taken;
    asked = s.asked;
    answered = λ V b. let it = s.answered V (was V b.0 b.1) in (it.0, kept b.0 _ it.1);
  }

  stops : (e : ServeFault) (ps : List Parts) → StopsWithin message_kind [] w ps e
      → StopsWithin message_kind [] (over H O N L w) ps e
  stops fault.Source ps (next, rest, s) = (next, rest, first_as (answered message_kind []) s)
  stops fault.Read ps s =
      record { exchanges = s.exchanges; whole = s.whole; done = answered message_kind [] s.exchanges s.done }
  stops fault.Write ps (x, rest, s) = (x, rest, first_as (cut_one message_kind [] x) s)
  stops fault.Store ps (x, rest, s) = (x, rest, first_as (undecided_one message_kind [] x) s)
  stops fault.Memory ps (inl (rest, s)) = inl (rest, first_as (before_one message_kind []) s)
  stops fault.Memory ps (inr (x, rest, s)) = inr (x, rest, first_as (silent_one message_kind [] x) s)

  served : (old new : Known) (n : Served) → IsServed old new w n → IsServed old new (over H O N L w) n
  served old new n s = record {
    bytes = s.bytes;
    messages = s.messages;
    fault = s.fault;
    exchanges = s.exchanges;
    read = s.read;
    reads = s.reads;
    taken = s.taken;
    asked = s.asked;
    whole = s.whole;
    counted = s.counted;
    told = s.told;
    ended = s.ended;
    answered = λ V b. let it = s.answered V (was V b.0 b.1) in (it.0, kept b.0 _ it.1);
  }

  stopped : (old new : Known) (e : ServeFault) → IsStopped old new w e
      → IsStopped old new (over H O N L w) e
  stopped old new fault.Source (f, s) = (
    f,
    record {
      bytes = s.bytes;
      messages = s.messages;
      read = s.read;
      reads = s.reads;
      stops = stops fault.Source _ s.stops;
    },
  )
  stopped old new fault.Read s = record {
    bytes = s.bytes;
    messages = s.messages;
    read = s.read;
    reads = s.reads;
    stops = stops fault.Read _ s.stops;
  }
  stopped old new fault.Write (inl (f, s)) = inl (
    f,
    record {
      bytes = s.bytes;
      messages = s.messages;
      read = s.read;
      reads = s.reads;
      stops = stops fault.Write _ s.stops;
    },
  )
  stopped old new fault.Write (inr s) = inr (record {
    bytes = s.bytes;
    messages = s.messages;
    fault = s.fault;
    exchanges = s.exchanges;
    sent = s.sent;
    read = s.read;
    reads = s.reads;
    open_till = s.open_till;
    taken = s.taken;
    asked = s.asked;
    whole = s.whole;
    part = s.part;
    answered = λ V b. let it = s.answered V (was V b.0 b.1) in (it.0, kept b.0 _ it.1);
  })
  stopped old new fault.Store (f, s) = (
    f,
    record {
      bytes = s.bytes;
      messages = s.messages;
      read = s.read;
      reads = s.reads;
      stops = stops fault.Store _ s.stops;
    },
  )
  stopped old new fault.Memory s = record {
    bytes = s.bytes;
    messages = s.messages;
    read = s.read;
    begins = s.begins;
    stops = stops fault.Memory _ s.stops;
  }

  pub piped : (old new : Known) → IsPiped old new w → IsPiped old new (over H O N L w)
  piped old new (n, s) = (n, served old new n s)

  pub stops_piping : (old new : Known) (e : ServeFault) → StopsPiping old new w e
      → StopsPiping old new (over H O N L w) e
  stops_piping old new e (inl s) = inl (stopped old new e s)
  stops_piping old new e (inr (is, s)) = inr (is, piped old new s)

  pub batched : (left : Known) (who : Asker) (counts : Counts) → batch.IsBatched left w who counts
      → batch.IsBatched left (over H O N L w) who counts
  batched left who counts s = record {
    rows = s.rows;
    records = s.records;
    answered = answered (rows_by who) _ s.rows s.answered;
    counted = record {
      rows = s.counted.rows;
      both = s.counted.both;
      tokens = λ V b. s.counted.tokens V (was V b.0 b.1);
    };
  }

  batch_stops : (left : Known) (who : Asker) (e : BatchFault) → batch.Stops left w who e
      → batch.Stops left (over H O N L w) who e
  batch_stops left who row.BadHeader ((sent, (taken, same)), s) = ((sent, (taken, untouched same)), s)
  batch_stops left who row.Read (inl (sent, (taken, same))) = inl (sent, (taken, untouched same))
  batch_stops left who row.Read (inr s) =
      inr (record {
        rows = s.rows;
        records = s.records;
        answered = answered (rows_by who) _ s.rows s.answered;
      })
  batch_stops left who row.Write (inl s) = inl (record {
    sent = s.sent;
    part = s.part;
    went = s.went;
    unchanged = (s.unchanged.0, untouched s.unchanged.1);
  })
  batch_stops left who row.Write (inr (rows, next, records, s)) =
      inr (rows, next, records, cut_one (rows_by who) _ next rows s)
  batch_stops left who row.Store (rows, next, records, s) =
      (rows, next, records, undecided_one (rows_by who) _ next rows s)
  batch_stops left who row.BadRecord s = record {
    rows = s.rows;
    bad = s.bad;
    records = s.records;
    wrong = s.wrong;
    answered = answered (rows_by who) _ s.rows s.answered;
  }
  batch_stops left who row.Memory (inl (sent, (taken, same))) = inl (sent, (taken, untouched same))
  batch_stops left who row.Memory (inr (inl (rows, records, s))) =
      inr (inl (rows, records, before_one (rows_by who) _ rows s))
  batch_stops left who row.Memory (inr (inr (rows, next, records, s))) =
      inr (inr (rows, next, records, silent_one (rows_by who) _ next rows s))
  batch_stops left who row.Source s = record {
    rows = s.rows;
    next = s.next;
    records = s.records;
    answered = answered (rows_by who) _ s.rows s.answered;
  }

  pub stops_batch : (left : Known) (who : Asker) (e : BatchFault) → StopsBatch left w who e
      → StopsBatch left (over H O N L w) who e
  stops_batch left who e (inl s) = inl (batch_stops left who e s)
  stops_batch left who e (inr (is, (counts, s))) = inr (is, (counts, batched left who counts s))

  pub serve_ends : (tells : Turns) (asks : Asking) (port n : ℕ) (r : Result Outcome Stop) (unsent : Type 0)
      (old new : Known) (writer : Bool) (ts : List Turn)
      → ServeEnds (serving_of tells asks port n) w r (output_with unsent old new writer) ts
      → ServeEnds (serving_of tells asks port n) (over H O N L w) r (output_with unsent old new writer) ts
  serve_ends tells asks port n (Ok outcome.Done) unsent old new writer ts (told, (all, h)) =
      (told, (all, all_kept tells asks ts h))
  serve_ends tells asks port n (Ok (outcome.Refused k)) unsent old new writer ts a = a
  serve_ends tells asks port n (Ok outcome.SomeRefused) unsent old new writer ts a = a
  serve_ends tells asks port n (Err (Vault f)) unsent old new writer ts a = a
  serve_ends tells asks port n (Err (Service f)) unsent old new writer ts (same, none, why) =
      (untouched same, none, why)
  serve_ends tells asks port n (Err (Listener f)) unsent old new writer ts (inl (is, silent, same, none)) =
      inl (is, silent, untouched same, none)
  serve_ends tells asks port n (Err (Listener f)) unsent old new writer ts (inr (told, a)) =
      inr (told, leaves tells asks n ts f a)
  serve_ends tells asks port n (Err (Unread about f)) unsent old new writer ts a = a
  serve_ends tells asks port n (Err (stop.Batch f)) unsent old new writer ts a = a

  pub commands_end : (P Q : Result Verdict Fault → Type 0) → ((r : Result Verdict Fault) → P r → Q r)
      → (line : List ℕ) (r : Result Outcome Stop) (unsent : Type 0) (old new : Known) (writer : Bool)
      → CommandsEnd P line r (output_with unsent old new writer) → CommandsEnd Q line r
      (output_with unsent old new writer)
  commands_end P Q step line (Ok outcome.Done) unsent old new writer (calm, wrote, h) =
      (calm, wrote, step _ h)
  commands_end P Q step line (Ok (outcome.Refused n)) unsent old new writer (silent, h) = (silent, step _ h)
  commands_end P Q step line (Ok outcome.SomeRefused) unsent old new writer h = h
  commands_end P Q step line (Err (Vault f)) unsent old new writer (silent, h) = (silent, step _ h)
  commands_end P Q step line (Err (Service f)) unsent old new writer (is, failed, h, part) =
      (is, failed, step _ h, part)
  commands_end P Q step line (Err (Listener f)) unsent old new writer h = h
  commands_end P Q step line (Err (Unread about f)) unsent old new writer h = h
  commands_end P Q step line (Err (stop.Batch f)) unsent old new writer h = h

  fails_to_read : (f : Fault) → FailsToRead w f
      → FailsToRead (over H O N L w) f
  fails_to_read Memory same = untouched same
  fails_to_read Store (is, h) = (is, λ V b. torn b.0 V V (h V (was V b.0 b.1)))
  fails_to_read Reopen h = h

  pub change_ends : (c : Command) (r : Result Outcome Stop) (unsent : Type 0)
      (old new : Known) (writer : Bool) → ChangeEnds c w r (output_with unsent old new writer)
      → ChangeEnds c (over H O N L w) r (output_with unsent old new writer)
  change_ends c r unsent old new writer (inl h) =
      inl (commands_end _ _ (carries c) _ r unsent old new writer h)
  change_ends c r unsent old new writer (inr (f, is, silent, h, some)) =
      inr (f, is, silent, fails_to_read f h, some)

  pub settle_ends : (now : ℕ) (rows : List Row) (r : Result Outcome Stop) (unsent : Type 0)
      (old new : Known) (writer : Bool) → SettleEnds now rows w r (output_with unsent old new writer)
      → SettleEnds now rows (over H O N L w) r (output_with unsent old new writer)
  settle_ends now rows r unsent old new writer (inl (changes, of, h)) = inl (
    changes,
    λ V b. of V (was V b.0 b.1),
    commands_end _ _ (carries_all H O N L w was kept torn changes.commands.items) _ r unsent old new
        writer h,
  )
  settle_ends now rows r unsent old new writer (inr (f, is, silent, h)) =
      inr (f, is, silent, fails_to_read f h)

  pub set_ends : (now : ℕ) (rows : List Wanted) (r : Result Outcome Stop) (unsent : Type 0)
      (old new : Known) (writer : Bool) → SetEnds now rows w r (output_with unsent old new writer)
      → SetEnds now rows (over H O N L w) r (output_with unsent old new writer)
  set_ends now rows r unsent old new writer (inl (cs, of, h)) = inl (
    cs,
    λ V b. of V (was V b.0 b.1),
    commands_end _ _ (carries_all H O N L w was kept torn cs) _ r unsent old new writer h,
  )
  set_ends now rows r unsent old new writer (inr (f, is, silent, h)) =
      inr (f, is, silent, fails_to_read f h)

  pub show_ends : (text : Content → List ℕ) (r : Result Outcome Stop) (unsent : Type 0)
      (old new : Known) (writer : Bool) → ShowEnds text w r (output_with unsent old new writer)
      → ShowEnds text (over H O N L w) r (output_with unsent old new writer)
  show_ends text (Ok outcome.Done) unsent old new writer (calm, same, h) =
      (calm, untouched same, λ V b. h V (was V b.0 b.1))
  show_ends text (Ok (outcome.Refused n)) unsent old new writer h = h
  show_ends text (Ok outcome.SomeRefused) unsent old new writer h = h
  show_ends text (Err (Vault f)) unsent old new writer (silent, h) =
      (silent, fails_to_read f h)
  show_ends text (Err (Service f)) unsent old new writer (is, failed, same, h) =
      (is, failed, untouched same, λ V b. h V (was V b.0 b.1))
  show_ends text (Err (Listener f)) unsent old new writer h = h
  show_ends text (Err (Unread about f)) unsent old new writer h = h
  show_ends text (Err (stop.Batch f)) unsent old new writer h = h

  carries_to : (cs : List Command) (V : Content) (r : Result Verdict Fault) → H
      → CarriesTo cs V w r → CarriesTo cs V (over H O N L w) r
  carries_to cs V (Ok (Ok done)) honest h = (h.0, kept honest _ h.1)
  carries_to cs V (Ok (Err n)) honest (k, below, replied, it) =
      (k, below, replied, kept honest _ it)
  carries_to cs V (Err Memory) honest (k, few, done, it) = (k, few, done, kept honest _ it)
  carries_to cs V (Err Store) honest (k, few, is, done, inl it) =
      (k, few, is, done, inl (torn honest _ _ it))
  carries_to cs V (Err Store) honest (k, few, is, done, inr (below, it)) =
      (k, few, is, done, inr (below, torn honest _ _ it))
  carries_to cs V (Err Reopen) honest h = h

  pub carries_out : (wants : Content → List Command) (r : Result Verdict Fault)
      → CarriesOut wants w r → CarriesOut wants (over H O N L w) r
  carries_out wants r h = λ V b. carries_to (wants V) V r b.0 (h V (was V b.0 b.1))

  pub begin_ends : (lists : Lists) (r : Result Outcome Stop) (unsent : Type 0)
      → BeginEnds lists w r unsent → BeginEnds lists (over H O N L w) r unsent
  begin_ends lists (Ok outcome.Done) unsent h = h
  begin_ends lists (Ok (outcome.Refused n)) unsent (silent, h) =
      (silent, carries_out (begin_of lists) (Ok (Err n)) h)
  begin_ends lists (Ok outcome.SomeRefused) unsent h = h
  begin_ends lists (Err (Vault f)) unsent (silent, h) =
      (silent, carries_out (begin_of lists) (Err f) h)
  begin_ends lists (Err (Service f)) unsent h = h
  begin_ends lists (Err (Listener f)) unsent h = h
  begin_ends lists (Err (Unread about f)) unsent h = h
  begin_ends lists (Err (stop.Batch f)) unsent h = h

  pub sweep_ends : (who : Asker) (now : ℕ) (r : Result Outcome Stop) (unsent : Type 0)
      (old new : Known) (writer : Bool) → SweepEnds who now w r (output_with unsent old new writer)
      → SweepEnds who now (over H O N L w) r (output_with unsent old new writer)
  sweep_ends who now (Ok outcome.Done) unsent old new writer (calm, (count, h, wrote)) =
      (calm, (count, sweeps who now (Ok (Ok count)) h, wrote))
  sweep_ends who now (Ok (outcome.Refused n)) unsent old new writer (silent, h) =
      (silent, sweeps who now (Ok (Err n)) h)
  sweep_ends who now (Ok outcome.SomeRefused) unsent old new writer h = h
  sweep_ends who now (Err (Vault f)) unsent old new writer (silent, h) =
      (silent, sweeps who now (Err f) h)
  sweep_ends who now (Err (Service f)) unsent old new writer (is, failed, (count, h, part)) =
      (is, failed, (count, sweeps who now (Ok (Ok count)) h, part))
  sweep_ends who now (Err (Listener f)) unsent old new writer h = h
  sweep_ends who now (Err (Unread about f)) unsent old new writer h = h
  sweep_ends who now (Err (stop.Batch f)) unsent old new writer h = h

  pub timed_sweep_ends : (giver : Giver) (who : Asker) (now : ℕ) (r : Result Outcome Stop)
      (unsent : Type 0) (old new : Known) (writer : Bool)
      → TimedSweepEnds giver who now w r (output_with unsent old new writer)
      → TimedSweepEnds giver who now (over H O N L w) r (output_with unsent old new writer)
  timed_sweep_ends Words who now r unsent old new writer h =
      sweep_ends who now r unsent old new writer h
  timed_sweep_ends Clock who now r unsent old new writer (inl (near, h)) =
      inl (λ V b. near V (was V b.0 b.1), sweep_ends who now r unsent old new writer h)
  timed_sweep_ends Clock who now r unsent old new writer (inr (inl (is, silent, same, far))) =
      inr (inl (is, silent, untouched same, λ V b. far V (was V b.0 b.1)))
  timed_sweep_ends Clock who now r unsent old new writer (inr (inr (f, is, silent, h))) =
      inr (inr (f, is, silent, fails_to_read f h))
