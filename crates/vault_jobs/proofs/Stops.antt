-- A service as a trial, and a service that stopped as a beginning of one.
use Rattle.std.proofs.Common.{◌≡◌, ℕ, ◌+◌, ◌≤◌, List, [], ◌∷◌, ◌++◌, length, take, Bool, true}
use Rattle.std.proofs.Common.{false, cond, Option, Some, None, inl, inr, sym, ◌∙◌, ap, subst, refl}
use Rattle.std.proofs.Common.{append-nil, append_assoc, arith}
use Rattle.std.proofs.Math.Seq.{take-append-add, take-append_seam, take-length}
use Rattle.std.proofs.lemmas.List.{map-append}
use Rattle.std.proofs.Common.{Result, Ok, Err}
use Rattle.std.proofs.lemmas.List.Elements.{All-nil}
use Rattle.std.specs.Prelude.{All, IfErr, OnErr, OnOk}
use Rattle.std.specs.Io.KnownBytes.{Appends, Consumes}
use Rattle.vault_core.specs.Vault.{Vault as Content}
use Rattle.vault_listen.specs.Live.{AreGiven, Continues, Turns, pairs_of}
use Rattle.vault_listen.proofs.Turns.{given_first, none_given}
use Rattle.vault_listen.specs.declared.live.LiveSource.{LiveSource}
use Rattle.vault_wire.specs.Messages.{Reads, Request}
use Rattle.vault_wire.specs.Parts.{Parts}
use Rattle.vault_wire.specs.declared.fault.WireFault.{WireFault}
use Rattle.vault_engine.proofs.Answering.{appends_nothing}
use Rattle.vault_engine.proofs.Listing.{texts-more}
use Rattle.vault_engine.specs.Answered as engine
use Rattle.vault_http.proofs.Bytes.{consumes_nothing}
use Rattle.vault_http.proofs.Closing.{up_to_close-none}
use Rattle.vault_http.proofs.Serving.{begins_of}
use Rattle.vault_http.specs.Exchanges.{answer_for, message_kind, fault_text, has_close, last_text, shown}
use Rattle.vault_engine.specs.Asking.{Asked, Asks, Pair, text_at, texts, vault_after}
use Rattle.vault_http.specs.Exchanges.{up_to_close}
use Rattle.vault_engine.specs.Passing.{IsBefore, Passage, Sends, Takes}
use Rattle.vault_engine.specs.Within.{StopsWithin}
use Rattle.vault_http.specs.Served.{Begins, IsServed, IsStopped, StopsAtFault, answered_fault}
use Rattle.vault_engine.specs.declared.stop.Stop.{Stop as ServeFault}
use Rattle.vault_http.specs.declared.served.Served.{Served}
use Rattle.vault_engine.specs.declared.stop.Stop.TheVariants as fault
use Rattle.vault_jobs.specs.Piped.{StopsPiping}
use Rattle.vault_jobs.specs.Streams.{Known}
use Rattle.vault_jobs.specs.Trial.{IsCut, IsLast, IsTrial}

-- the first messages are asked with such pairs, and of the texts that answer them a beginning went out
record Begun (tells : Turns) (w : Passage) (ps : List Parts) (V : Content) (now : Option ℕ)
    (digits : Option (List ℕ))
    : Type 0 where
  exchanges : List (Asked Parts)
  rest : List Parts
  count : ℕ
  fixed : AreGiven tells now digits (engine.pairs_of exchanges)
  asks : All (Asks message_kind) exchanges
  first : ps ≡ engine.units_of exchanges ++ rest
  sent : Sends w (take count (texts answer_for V exchanges))

-- the texts before the last one, and of that one a part
last_part : (V : Content) (xs : List (Asked Parts)) (x : Asked Parts) (n : ℕ)
    → take (length (texts answer_for V xs) + n) (texts answer_for V (xs ++ x ∷ []))
    ≡ texts answer_for V xs ++ take n (text_at answer_for (vault_after V xs) x)
last_part V xs x n =
    ap (λ ts. take (length (texts answer_for V xs) + n) ts) (texts-more message_kind V xs x)
    ∙ take-append-add (texts answer_for V xs) (text_at answer_for (vault_after V xs) x) n

-- the texts before the last one
but_last : (V : Content) (xs : List (Asked Parts)) (x : Asked Parts)
    → take (length (texts answer_for V xs)) (texts answer_for V (xs ++ x ∷ [])) ≡ texts answer_for V xs
but_last V xs x =
    ap (λ ts. take (length (texts answer_for V xs)) ts) (texts-more message_kind V xs x)
    ∙ take-append_seam (texts answer_for V xs) (text_at answer_for (vault_after V xs) x)

-- the next one with those before it
pub with_next : (ps rest : List Parts) (xs : List (Asked Parts)) (x : Asked Parts)
    → ps ≡ engine.units_of xs ++ x.unit ∷ rest → ps ≡ engine.units_of (xs ++ x ∷ []) ++ rest
with_next ps rest xs x same =
    same ∙ sym (append_assoc (engine.units_of xs) (x.unit ∷ []) rest)
    ∙ ap (λ us. us ++ rest) (sym (map-append (λ (y : Asked Parts). y.unit) xs (x ∷ [])))

module _ (tells : Turns) (w : Passage) (V : Content) (now : Option ℕ) (digits : Option (List ℕ))
    (before : IsBefore w V)
    (fresh : w.given_old ≡ []) (fits : AreGiven tells now digits w.given_new) where
  fixed_in : (pairs : List Pair) → Takes w pairs → AreGiven tells now digits pairs
  fixed_in pairs taken =
      subst (λ (ds : List Pair). AreGiven tells now digits ds) (taken ∙ ap (λ ds. ds ++ pairs) fresh) fits

  -- all texts went out
  begun_whole : (ps rest : List Parts) (xs : List (Asked Parts)) → ps ≡ engine.units_of xs ++ rest
      → AreGiven tells now digits (engine.pairs_of xs) → All (Asks message_kind) xs
      → Sends w (texts answer_for V xs) → Begun tells w ps V now digits
  begun_whole ps rest xs first fixed asks sent = record {
    exchanges = xs;
    rest = rest;
    count = length (texts answer_for V xs);
    fixed = fixed;
    asks = asks;
    first = first;
    sent = subst (λ t. Sends w t) (sym (take-length (texts answer_for V xs))) sent;
  }

  -- of the last one's text a part went out, or nothing
  begun_last : (ps rest : List Parts) (xs : List (Asked Parts)) (x : Asked Parts) (count : ℕ)
      → ps ≡ engine.units_of xs ++ x.unit ∷ rest
      → Takes w (engine.pairs_of (xs ++ x ∷ [])) → All (Asks message_kind) (xs ++ x ∷ [])
      → Sends w (take count (texts answer_for V (xs ++ x ∷ []))) → Begun tells w ps V now digits
  begun_last ps rest xs x count first taken asks sent = record {
    exchanges = xs ++ x ∷ [];
    rest = rest;
    count = count;
    fixed = fixed_in _ taken;
    asks = asks;
    first = with_next ps rest xs x first;
    sent = sent;
  }

  begun : (e : ServeFault) (ps : List Parts) → StopsWithin message_kind [] w ps e
      → Begun tells w ps V now digits
  begun fault.Source ps (next, rest, s) =
      begun_whole ps (next ∷ rest) s.exchanges s.whole (fixed_in _ s.known.taken) s.known.asked
      (s.known.answered V before).0
  begun fault.Read ps s =
      begun_whole ps [] s.exchanges (sym s.whole ∙ sym (append-nil _)) (fixed_in _ s.done.taken) s.done.asked
      (s.done.answered V before).0
  begun fault.Write ps (x, rest, s) =
      begun_last ps rest s.exchanges x (length (texts answer_for V s.exchanges) + s.known.sent) s.whole
      s.known.taken s.known.asked
      (subst (λ t. Sends w t) (sym (last_part V s.exchanges x s.known.sent)) (s.known.answered V before).1)
  begun fault.Store ps (x, rest, s) =
      begun_last ps rest s.exchanges x (length (texts answer_for V s.exchanges)) s.whole s.known.taken
      s.known.asked
      (subst (λ t. Sends w t) (sym (but_last V s.exchanges x)) (s.known.answered V before).0)
  begun fault.Memory ps (inl (rest, s)) =
      begun_whole ps rest s.exchanges s.whole
      (given_first tells now digits (engine.pairs_of s.exchanges) s.known.unused (fixed_in _ s.known.taken))
      s.known.asked (s.known.answered V before).0
  begun fault.Memory ps (inr (x, rest, s)) =
      begun_last ps rest s.exchanges x (length (texts answer_for V s.exchanges)) s.whole s.known.taken
      s.known.asked
      (subst (λ t. Sends w t) (sym (but_last V s.exchanges x)) (s.known.answered V before).0)

  -- a service to its end is a trial
  pub trial_of : (old new : Known) (served : Served) → IsServed old new w served
      → IsTrial (AreGiven tells now digits) V old new w.sent_old w.sent_new
  trial_of old new served s =
      let P : Option WireFault → Type 0 = λ e. Sends w (texts answer_for V s.exchanges ++ last_text e) in
      record {
        bytes = s.bytes;
        messages = s.messages;
        fault = s.fault;
        exchanges = s.exchanges;
        read = s.read;
        reads = s.reads;
        fixed = fixed_in _ s.taken;
        asked = s.asked;
        whole = s.whole;
        ended = s.ended;
        sent = subst P s.told (s.answered V before).0;
      }

  cut_among : (old new : Known) (bytes : List ℕ) (ms : List Request) → Consumes old new bytes
      → Begins bytes ms
      → Begun tells w (up_to_close (shown ms)) V now digits
      → IsCut (AreGiven tells now digits) V old new w.sent_old w.sent_new
  cut_among old new bytes ms read begins b = record {
    bytes = bytes;
    messages = ms;
    exchanges = b.exchanges;
    rest = b.rest;
    last = None;
    count = b.count;
    read = read;
    begins = begins;
    fixed = b.fixed;
    asked = b.asks;
    first = b.first;
    ends = tt;
    sent = subst (λ t. Sends w (take b.count t)) (sym (append-nil (texts answer_for V b.exchanges))) b.sent;
  }

  cut_at_fault : (old new : Known) → StopsAtFault old new w
      → IsCut (AreGiven tells now digits) V old new w.sent_old w.sent_new
  cut_at_fault old new s = record {
    bytes = s.bytes;
    messages = s.messages;
    exchanges = s.exchanges;
    rest = [];
    last = Some s.fault;
    count = length (texts answer_for V s.exchanges) + s.sent;
    read = s.read;
    begins = begins_of s.bytes s.messages (Some s.fault) s.reads;
    fixed = fixed_in _ s.taken;
    asked = s.asked;
    first = up_to_close-none (shown s.messages) s.open_till ∙ sym s.whole ∙ sym (append-nil _);
    ends = (s.reads, s.open_till, s.whole);
    sent = subst (λ t. Sends w t)
        (sym (take-append-add (texts answer_for V s.exchanges) (fault_text s.fault) s.sent))
        (s.answered V before).0;
  }

  -- a service that stopped went through a beginning of a trial
  pub cut_of : (e : ServeFault) (old new : Known) → IsStopped old new w e
      → IsCut (AreGiven tells now digits) V old new w.sent_old w.sent_new
  cut_of fault.Source old new (f, s) =
      cut_among old new s.bytes s.messages s.read (begins_of s.bytes s.messages f s.reads)
      (begun fault.Source (up_to_close (shown s.messages)) s.stops)
  cut_of fault.Read old new s =
      cut_among old new s.bytes s.messages s.read (begins_of s.bytes s.messages None s.reads)
      (begun fault.Read (up_to_close (shown s.messages)) s.stops)
  cut_of fault.Write old new (inl (f, s)) =
      cut_among old new s.bytes s.messages s.read (begins_of s.bytes s.messages f s.reads)
      (begun fault.Write (up_to_close (shown s.messages)) s.stops)
  cut_of fault.Write old new (inr s) = cut_at_fault old new s
  cut_of fault.Store old new (f, s) =
      cut_among old new s.bytes s.messages s.read (begins_of s.bytes s.messages f s.reads)
      (begun fault.Store (up_to_close (shown s.messages)) s.stops)
  cut_of fault.Memory old new s = cut_among old new s.bytes s.messages s.read s.begins
      (begun fault.Memory (up_to_close (shown s.messages)) s.stops)

-- nothing was read and nothing went out
pub nothing_cut : (tells : Turns) (left sent : Known) (V : Content) (now : Option ℕ)
    (digits : Option (List ℕ))
    → IsCut (AreGiven tells now digits) V left left sent sent
nothing_cut tells left sent V now digits = record {
  bytes = [];
  messages = [];
  exchanges = [];
  rest = [];
  last = None;
  count = 0;
  read = consumes_nothing left;
  begins = record {
    rest = [];
    whole = refl;
    each = λ k m below. let never : ⊥ = omega (arith, below) in absurd never;
  };
  fixed = none_given;
  asked = All-nil (Asks message_kind);
  first = refl;
  ends = tt;
  sent = appends_nothing sent;
}

-- the fault is answered only where no message closes the connection
ends_at : (bytes : List ℕ) (ms : List Request) (xs : List (Asked Parts)) (e : Option WireFault) (b : Bool)
    → has_close (shown ms) ≡ b → Reads bytes ms e → engine.units_of xs ≡ up_to_close (shown ms)
    → IsLast bytes ms xs (cond b None e)
ends_at bytes ms xs e true h reads whole = tt
ends_at bytes ms xs None false h reads whole = tt
ends_at bytes ms xs (Some e) false h reads whole = (reads, h, whole ∙ up_to_close-none (shown ms) h)

-- a trial is a beginning of itself
pub cut_whole : (tells : Turns) (old new out gone : Known) (V : Content) (now : Option ℕ)
    (digits : Option (List ℕ))
    → IsTrial (AreGiven tells now digits) V old new out gone → IsCut (AreGiven tells now digits) V old new out
    gone
cut_whole tells old new out gone V now digits t =
    let last : Option WireFault = answered_fault t.messages t.fault in
    let all : List ℕ = texts answer_for V t.exchanges ++ last_text last in
    record {
      bytes = t.bytes;
      messages = t.messages;
      exchanges = t.exchanges;
      rest = [];
      last = last;
      count = length all;
      read = t.read;
      begins = begins_of t.bytes t.messages t.fault t.reads;
      fixed = t.fixed;
      asked = t.asked;
      first = sym t.whole ∙ sym (append-nil _);
      ends = ends_at t.bytes t.messages t.exchanges t.fault (has_close (shown t.messages)) refl t.reads
          t.whole;
      sent = subst (λ (ts : List ℕ). Appends out gone ts) (sym (take-length all)) t.sent;
    }

-- what holds in any case holds after an error
pub on_err : {X E : Type 0} (r : Result X E) (P : Type 0) → P → OnErr r P
on_err (Ok x) P h = tt
on_err (Err e) P h = h

-- what follows from what holds with an answer, and with an error
pub on_ok_then : {X E : Type 0} (r : Result X E) (P Q : Type 0) → (P → Q) → OnOk r P → OnOk r Q
on_ok_then (Ok x) P Q then h = then h
on_ok_then (Err e) P Q then h = tt

pub if_err_then : {X E : Type 0} (r : Result X E) (P : E → Type 0) (Q : Type 0) → ((e : E) → P e → Q)
    → IfErr r P → OnErr r Q
if_err_then (Ok x) P Q then h = tt
if_err_then (Err e) P Q then h = then e h

-- the pairs of a source that goes on from none are no more than it was to give
pub few_pairs : {Q G : Type 0} (tells : Q → Turns) (told : Q → ℕ) (old new : LiveSource Q G) (most : ℕ)
    → pairs_of old ≡ [] → old.left ≡ most → Continues tells told old new → length (pairs_of new) ≤ most
few_pairs tells told old new most none left goes =
    omega (arith, goes.counted, left, ap (λ (pairs : List Pair). length pairs) none)

-- what stops the answering of an input is a beginning of a trial
pub cut_piping : (tells : Turns) (w : Passage) (V : Content) (now : Option ℕ) (digits : Option (List ℕ))
    → IsBefore w V
    → w.given_old ≡ [] → AreGiven tells now digits w.given_new → (old new : Known) (e : ServeFault)
    → StopsPiping old new w e → IsCut (AreGiven tells now digits) V old new w.sent_old w.sent_new
cut_piping tells w V now digits before fresh fits old new e (inl s) =
    cut_of tells w V now digits before fresh fits e old new s
cut_piping tells w V now digits before fresh fits old new e (inr (is, (served, s))) =
    cut_whole tells old new w.sent_old w.sent_new V now digits
    (trial_of tells w V now digits before fresh fits old new served s)
