-- The bytes of a connection, and where a service of them ends.
use Rattle.std.proofs.Common.{◌≡◌, ℕ, ◌+◌, ◌-◌, ◌*◌, ◌<◌, List, [], ◌∷◌, ◌++◌, length, take, refl, sym}
use Rattle.std.proofs.Common.{ap, ◌∙◌, subst, append_assoc, append-nil, arith, inl, inr, length-append}
use Rattle.std.specs.Prelude.{Option, Some, None, Err, false}
use Rattle.std.specs.List.{flat_map}
use Rattle.std.specs.Io.KnownBytes.{Appends, Consumes, IsAtEnd}
use Rattle.std.proofs.lemmas.List.{length-map}
use Rattle.vault_core.specs.Vault.{Vault as Content}
use Rattle.vault_wire.specs.Messages.{Request, Reads, ReadsThen, print_message}
use Rattle.vault_wire.specs.Parts.{Parts, parts_of}
use Rattle.vault_wire.specs.ReadingMessages.{Kept, IsReading, ReadsTo}
use Rattle.vault_wire.specs.declared.fault.WireFault.{WireFault}
use Rattle.vault_wire.proofs.OpenFacts.{open_short}
use Rattle.vault_wire.proofs.ReadingFacts.{reads_of}
use Rattle.vault_engine.specs.Answered.{units_of}
use Rattle.vault_engine.specs.Asking.{Asked, texts, vault_after}
use Rattle.vault_engine.specs.Passing.{Passage, IsBefore, Keeps, Sends}
use Rattle.vault_engine.specs.Within.{AllAnswered, StopsWithin}
use Rattle.vault_engine.proofs.JoinedUnits.{appends_both}
use Rattle.vault_engine.proofs.Within.{stops_after}
use Rattle.vault_http.specs.Exchanges.{answer_for, fault_text, has_close, last_text, message_kind, shown}
use Rattle.vault_http.specs.Exchanges.{up_to_close}
use Rattle.vault_http.specs.Refusing.{IsRefused}
use Rattle.vault_http.specs.Served.{Begins, IsServed, IsStopped}
use Rattle.vault_http.specs.Served.{answered_fault}
use Rattle.vault_engine.specs.declared.stop.Stop.{Stop as ServeFault}
use Rattle.vault_engine.specs.declared.stop.Stop.TheVariants as fault
use Rattle.vault_http.specs.declared.served.Served.{Served}
use Rattle.vault_http.proofs.Closing.{up_to_close-none}

-- bytes that are read in whole begin with their messages
pub begins_of : (bytes : List ℕ) (ms : List Request) (e : Option WireFault) → Reads bytes ms e
    → Begins bytes ms
begins_of bytes ms e r = record { rest = r.0; whole = r.1.whole; each = r.1.each }

pub begins_more : (bytes more : List ℕ) (ms : List Request) → Begins bytes ms → Begins (bytes ++ more) ms
begins_more bytes more ms b = record {
  rest = b.rest ++ more;
  whole = ap (λ x. x ++ more) b.whole ∙ append_assoc (flat_map print_message ms) b.rest more;
  each = b.each;
}

pub reads_by : (k : Kept) (bytes : List ℕ) (ms : List Request) (e : Option WireFault) → k.fault ≡ e
    → IsReading k bytes ms → Reads bytes ms e
reads_by k bytes ms e same r = subst (Reads bytes ms) same (reads_of k bytes ms r)

reads_then : (k : Kept) (bytes : List ℕ) (ms : List Request) → k.fault ≡ None → IsReading k bytes ms
    → ReadsThen bytes ms None k.rest
reads_then k bytes ms calm r = subst (λ f. ReadsTo f k.rest bytes ms) calm r

-- the rest is shorter than the longest message
pub rest_short : (k : Kept) (bytes : List ℕ) (ms : List Request) → k.fault ≡ None → IsReading k bytes ms
    → length k.rest < 12288
rest_short k bytes ms calm r = let t = reads_then k bytes ms calm r in open_short k.rest t.ends

-- a piece that completes no message makes the rest longer
pub rest_grows : (old new : Kept) (bytes piece : List ℕ) (ms : List Request) → old.fault ≡ None
    → new.fault ≡ None
    → IsReading old bytes ms → IsReading new (bytes ++ piece) (ms ++ [])
    → length new.rest ≡ length old.rest + length piece
rest_grows old new bytes piece ms calm still r s =
    let t = reads_then old bytes ms calm r in
    let u = reads_then new (bytes ++ piece) (ms ++ []) still s in
    let texts = flat_map print_message ms in
    let before : length bytes ≡ length texts + length old.rest =
    ap length t.whole ∙ length-append texts old.rest in
    let after : length bytes + length piece ≡ length texts + length new.rest =
    sym (length-append bytes piece) ∙ ap length u.whole
    ∙ ap (λ ns. length (flat_map print_message ns ++ new.rest)) (append-nil ms)
    ∙ length-append texts new.rest in
    omega (arith, before, after)

-- each piece takes a pair for a message that it completes, or makes the rest longer
pub falls : (ns : List Request) (old new : Kept) (bytes piece : List ℕ) (ms : List Request) (before after : ℕ)
    → old.fault ≡ None → new.fault ≡ None → IsReading old bytes ms → IsReading new (bytes ++ piece) (ms ++ ns)
    → 0 < length piece → before ≡ after + length ns
    → after * 12288 + (12288 - length new.rest) < before * 12288 + (12288 - length old.rest)
falls [] old new bytes piece ms before after calm still r s some counted =
    let grows = rest_grows old new bytes piece ms calm still r s in
    let short = rest_short new (bytes ++ piece) (ms ++ []) still s in
    omega (arith, grows, short, some, counted)
falls (n ∷ ns) old new bytes piece ms before after calm still r s some counted =
    let short = rest_short old bytes ms calm r in
    omega (arith, short, some, counted)

-- the same messages are answered
pub all_as : (w : Passage) (ps qs : List Parts) → ps ≡ qs → AllAnswered message_kind [] w ps
    → AllAnswered message_kind [] w qs
all_as w ps qs same f = subst (AllAnswered message_kind [] w) same f

pub stops_as : (w : Passage) (e : ServeFault) (ps qs : List Parts) → ps ≡ qs
    → StopsWithin message_kind [] w ps e → StopsWithin message_kind [] w qs e
stops_as w e ps qs same q = subst (λ rs. StopsWithin message_kind [] w rs e) same q

-- as many as there are
counted_by : (xs : List (Asked Parts)) (ps : List Parts) → units_of xs ≡ ps → length ps ≡ length xs
counted_by xs ps whole = ap length (sym whole) ∙ length-map xs (λ (x : Asked Parts). x.unit)

module _ (left_old left_new : Option (List ℕ)) (w : Passage) (bytes : List ℕ) (ms : List Request)
    (read : Consumes left_old left_new bytes) where
  -- a connection that was served, and of which no fault was answered
  pub served_plain : (e : Option WireFault) (served : Served) → Reads bytes ms e
      → AllAnswered message_kind [] w (up_to_close (shown ms))
      → served.messages ≡ length (up_to_close (shown ms)) → served.fault ≡ None → answered_fault ms e ≡ None
      → (has_close (shown ms) ≡ false → e ≡ None → IsAtEnd left_new) → IsServed left_old left_new w served
  served_plain e served reads f counted told none ended = record {
    bytes = bytes;
    messages = ms;
    fault = e;
    exchanges = f.exchanges;
    read = read;
    reads = reads;
    taken = f.done.taken;
    asked = f.done.asked;
    whole = f.whole;
    counted = counted ∙ counted_by f.exchanges _ f.whole;
    told = told ∙ sym none;
    ended = ended;
    answered = λ V b.
        let a = f.done.answered V b in
        let out = texts answer_for V f.exchanges in
        (subst (Sends w) (sym (append-nil out) ∙ ap (λ e. out ++ last_text e) (sym told)) a.0, a.1);
  }

  -- a stop among the messages that were read in whole
  pub stopped_of : (e : ServeFault) (f : Option WireFault) → (e ≡ fault.Read → ⊥) → Reads bytes ms f
      → StopsWithin message_kind [] w (up_to_close (shown ms)) e → IsStopped left_old left_new w e
  stopped_of fault.Source f n reads s =
      (f, record { bytes = bytes; messages = ms; read = read; reads = reads; stops = s })
  stopped_of fault.Read f n reads s = absurd (n refl)
  stopped_of fault.Write f n reads s =
      inl (f, record { bytes = bytes; messages = ms; read = read; reads = reads; stops = s })
  stopped_of fault.Store f n reads s =
      (f, record { bytes = bytes; messages = ms; read = read; reads = reads; stops = s })
  stopped_of fault.Memory f n reads s =
      record { bytes = bytes; messages = ms; read = read; begins = begins_of bytes ms f reads; stops = s }

-- all messages are answered, and then a fault of the bytes
module _ (left_old left_new : Option (List ℕ)) (w : Passage) (out : Option (List ℕ)) (bytes : List ℕ)
    (ms : List Request) (e : WireFault) (read : Consumes left_old left_new bytes)
    (reads : Reads bytes ms (Some e)) (open_till : has_close (shown ms) ≡ false)
    (f : AllAnswered message_kind [] w (shown ms)) where
  sent_then : (more : List ℕ) → Appends w.sent_new out more → (V : Content) → IsBefore w V
      → Appends w.sent_old out (texts answer_for V f.exchanges ++ more)
      × Keeps w (vault_after V f.exchanges)
  sent_then more a = λ V b.
      let q = f.done.answered V b in
      (appends_both _ _ _ (texts answer_for V f.exchanges) more q.0 a, q.1)

  -- the fault was answered
  pub served_fault : (served : Served) → served.messages ≡ length ms → served.fault ≡ Some e
      → Appends w.sent_new out (fault_text e)
      → IsServed left_old left_new (record w { sent_new = out }) served
  served_fault served counted told a = record {
    bytes = bytes;
    messages = ms;
    fault = Some e;
    exchanges = f.exchanges;
    read = read;
    reads = reads;
    taken = f.done.taken;
    asked = f.done.asked;
    whole = f.whole ∙ sym (up_to_close-none (shown ms) open_till);
    counted = counted ∙ sym (length-map ms parts_of) ∙ counted_by f.exchanges _ f.whole;
    told = rw open_till told;
    ended = λ _ none. absurd (cc);
    answered = λ V b.
        let q = sent_then (fault_text e) a V b in (
          subst (λ x. Appends w.sent_old out (texts answer_for V f.exchanges ++ last_text x)) (sym told) q.0,
          q.1,
        );
  }

  -- the fault was not answered
  pub stopped_fault : (stop : ServeFault) → IsRefused {X = Unit {0}} w.sent_new out (fault_text e) (Err stop)
      → IsStopped left_old left_new (record w { sent_new = out }) stop
  stopped_fault fault.Source r = absurd r
  stopped_fault fault.Read r = absurd r
  stopped_fault fault.Write r = inr (record {
    bytes = bytes;
    messages = ms;
    fault = e;
    exchanges = f.exchanges;
    sent = r.0;
    read = read;
    reads = reads;
    open_till = open_till;
    taken = f.done.taken;
    asked = f.done.asked;
    whole = f.whole;
    part = r.1;
    answered = sent_then (take r.0 (fault_text e)) r.2;
  })
  stopped_fault fault.Store r = absurd r
  stopped_fault fault.Memory r = record {
    bytes = bytes;
    messages = ms;
    read = read;
    begins = begins_of bytes ms (Some e) reads;
    stops = stops_after message_kind (record w { sent_new = out }) [] _
        (subst (AllAnswered message_kind [] (record w { sent_new = out }))
        (sym (up_to_close-none (shown ms) open_till))
        (subst (λ o. AllAnswered message_kind [] (record w { sent_new = o }) (shown ms)) (sym r) f));
  }
