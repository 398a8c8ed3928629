-- A service that stopped sent a beginning of what one sends that serves the same to the end.
use Rattle.std.proofs.Common.{◌≡◌, ◌⊎◌, ℕ, Bool, true, false, cond, List, [], ◌∷◌, ◌++◌, length, take, drop}
use Rattle.std.proofs.Common.{All, Option, Some, None, inl, inr, refl, sym, ap, ap₂, ◌∙◌, subst, append_assoc}
use Rattle.std.proofs.Common.{take-append-drop, length-append, arith}
use Rattle.std.specs.List.{flat_map}
use Rattle.std.specs.Io.KnownBytes.{Consumes}
use Rattle.std.proofs.lemmas.List.{append-nil, length-map, map-append}
use Rattle.std.proofs.lemmas.List.Elements.{All-head, All-tail}
use Rattle.vault_core.specs.Vault.{Vault as Content}
use Rattle.vault_wire.specs.Messages.{IsMessage, Request, print_message}
use Rattle.vault_wire.specs.Parts.{Parts, closes, parts_of}
use Rattle.vault_wire.specs.declared.fault.WireFault.{WireFault}
use Rattle.vault_http.specs.Exchanges.{answer_for, fault_text, last_text, message_kind, shown, up_to_close}
use Rattle.vault_engine.specs.Answered.{pairs_of, units_of}
use Rattle.vault_engine.specs.Asking.{Asked, Asks, Pair, text_at, texts, vault_after}
use Rattle.vault_engine.specs.Passing.{IsBefore, Passage, Sends, Takes}
use Rattle.vault_engine.specs.Within.{StopsWithin}
use Rattle.vault_http.specs.Served.{IsServed, IsStopped, StopsAtFault, StopsAmong}
use Rattle.vault_engine.specs.declared.stop.Stop.{Stop as ServeFault}
use Rattle.vault_engine.specs.declared.stop.Stop.TheVariants as stop
use Rattle.vault_http.specs.declared.served.Served.{Served}
use Rattle.vault_http.proofs.Closing.{up_to_close-none}
use Rattle.vault_engine.proofs.Listing.{texts-append, texts-more}
use Rattle.vault_jobs.proofs.Stops.{with_next}
use Rattle.vault_promise.specs.Agreement.{IsOfHead}
use Rattle.vault_promise.specs.Service.{HasAmbiguousRest, SentBeginning, SentBeginningTillFault, Serves}
use Rattle.vault_promise.specs.Service.{StoppedServicesAgree}
use Rattle.vault_promise.proofs.Faults.{next_same}
use Rattle.vault_promise.proofs.Service.{same_pairs}
use Rattle.vault_promise.proofs.Streams.{alike}
use Rattle.vault_promise.proofs.Wanting.{same_asked}

-- the one list is a beginning of the other
abbrev Front : {X : Type 0} → List X → List X → Type 0
Front {X} front all = (later : List X) × (all ≡ front ++ later)

front_trans : {X : Type 0} (a b c : List X) → Front a b → Front b c → Front a c
front_trans a b c p q =
    (p.0 ++ q.0, q.1 ∙ ap (λ t. t ++ q.0) p.1 ∙ append_assoc a p.0 q.0)

-- of two lists of messages at the front of the same bytes the one begins with the other
fronts : (ms ns : List Request) (x y : List ℕ) → All IsMessage ms → All IsMessage ns
    → flat_map print_message ms ++ x ≡ flat_map print_message ns ++ y → Front ms ns ⊎ Front ns ms
fronts [] ns x y a b same = inl (ns, refl)
fronts (m ∷ ms) [] x y a b same = inr (m ∷ ms, refl)
fronts (m ∷ ms) (n ∷ ns) x y a b same =
    let tails = next_same m n ms ns x y (All-head IsMessage m ms a) (All-head IsMessage n ns b) same in
    elim (fronts ms ns x y (All-tail IsMessage m ms a) (All-tail IsMessage n ns b) tails.1) [
      | inl f ↦ inl (f.0, ap₂ (λ k ks. k ∷ ks) (sym tails.0) f.1)
      | inr f ↦ inr (f.0, ap₂ (λ k ks. k ∷ ks) tails.0 f.1)
    ]

-- up to the first that closes, more messages begin with those
front_closes : (ps qs : List Parts) → Front (up_to_close ps) (up_to_close (ps ++ qs))
front_closes [] qs = (up_to_close qs, refl)
front_closes (p ∷ ps) qs =
    let rest = front_closes ps qs in
    elim (closes p) as (λ c. Front (p ∷ cond c [] (up_to_close ps))
    (p ∷ cond c [] (up_to_close (ps ++ qs)))) [
      | true ↦ ([], refl)
      | false ↦ (rest.0, ap (λ ks. p ∷ ks) rest.1)
    ]

front_shown : (ms ns : List Request) → Front ms ns → Front (up_to_close (shown ms)) (up_to_close (shown ns))
front_shown ms ns f =
    let rest = front_closes (shown ms) (shown f.0) in
    (rest.0, ap (λ ks. up_to_close (shown ks)) f.1 ∙ ap up_to_close (map-append parts_of ms f.0) ∙ rest.1)

-- messages that are asked with the first pairs are the first exchanges
asks_front : (ys xs : List (Asked Parts)) (r t : List Parts) (more : List Pair) → All (Asks message_kind) ys
    → All (Asks message_kind) xs → units_of ys ++ r ≡ units_of xs ++ t → pairs_of xs ≡ pairs_of ys ++ more
    → Front ys xs
asks_front [] xs r t more a b units pairs = (xs, refl)
asks_front (y ∷ ys) [] r t more a b units pairs = absurd (cc (pairs))
asks_front (y ∷ ys) (x ∷ xs) r t more a b units pairs =
    let head : x ≡ y =
    same_asked x y (cc (units)) (cc (pairs)) (All-head (Asks message_kind) x xs b)
    (All-head (Asks message_kind) y ys a) in
    let rest = asks_front ys xs r t more (All-tail (Asks message_kind) y ys a)
    (All-tail (Asks message_kind) x xs b) (cc (units)) (cc (pairs)) in
    (rest.0, ap₂ (λ k ks. k ∷ ks) head rest.1)

-- the same of messages of which the one list begins with the other
asks_fronts : (ps qs : List Parts) (ys xs : List (Asked Parts)) (r : List Parts) (more : List Pair)
    → Front ps qs ⊎ Front qs ps → All (Asks message_kind) ys → All (Asks message_kind) xs
    → qs ≡ units_of ys ++ r → units_of xs ≡ ps → pairs_of xs ≡ pairs_of ys ++ more → Front ys xs
asks_fronts ps qs ys xs r more (inl f) a b some all pairs =
    asks_front ys xs r f.0 more a b (sym some ∙ f.1 ∙ ap (λ t. t ++ f.0) (sym all)) pairs
asks_fronts ps qs ys xs r more (inr f) a b some all pairs =
    asks_front ys xs (r ++ f.0) [] more a b (sym (append_assoc (units_of ys) r f.0)
    ∙ ap (λ t. t ++ f.0) (sym some) ∙ sym f.1 ∙ sym all ∙ sym (append-nil _)) pairs

-- texts of the first exchanges come first
front_texts : (V : Content) (ys xs : List (Asked Parts)) → Front ys xs
    → Front (texts answer_for V ys) (texts answer_for V xs)
front_texts V ys xs f = (
  texts answer_for (vault_after V ys) f.0,
  ap (texts answer_for V) f.1 ∙ texts-append message_kind V ys f.0,
)

-- a beginning of the next text comes after the texts before it
front_part : (V : Content) (ys : List (Asked Parts)) (x : Asked Parts) (n : ℕ)
    → Front (texts answer_for V ys ++ take n (text_at answer_for (vault_after V ys) x))
    (texts answer_for V (ys ++ x ∷ []))
front_part V ys x n =
    let t = text_at answer_for (vault_after V ys) x in (
      drop n t,
      texts-more message_kind V ys x ∙ ap (λ s. texts answer_for V ys ++ s) (sym (take-append-drop n t))
          ∙ sym (append_assoc (texts answer_for V ys) (take n t) (drop n t)),
    )

-- the messages at the front of bytes that were taken
whole_of : (bytes b front rest : List ℕ) (left : Option (List ℕ)) → Consumes (Some bytes) left b
    → b ≡ front ++ rest → Front front bytes
whole_of bytes b front rest None read is = absurd read
whole_of bytes b front rest (Some y) read is =
    (rest ++ y, read ∙ ap (λ t. t ++ y) is ∙ append_assoc front rest y)

-- what a service that serves to the end sends, and the exchanges of one that stopped
module _ (w w' : Passage) (bytes : List ℕ) (pairs more : List Pair) (V : Content) (served : Served)
    (given : Serves bytes (pairs ++ more) V w served) where
  abbrev one : IsServed (Some bytes) given.left w served
  one = given.does

  -- exchanges of messages at the front of the bytes, with some of the pairs, are the first
  first_ones : (ns : List Request) (later : List ℕ) → All IsMessage ns
      → bytes ≡ flat_map print_message ns ++ later → (r : List Parts) (unused : List Pair)
      (ys : List (Asked Parts)) → pairs ≡ pairs_of ys ++ unused
      → up_to_close (shown ns) ≡ units_of ys ++ r → All (Asks message_kind) ys → Front ys one.exchanges
  first_ones ns later each whole r unused ys are first asked =
      let mine = whole_of bytes one.bytes (flat_map print_message one.messages) one.reads.0 given.left
      one.read one.reads.1.whole in
      let both : Front (up_to_close (shown one.messages)) (up_to_close (shown ns))
      ⊎ Front (up_to_close (shown ns)) (up_to_close (shown one.messages)) =
      elim (fronts one.messages ns mine.0 later one.reads.1.each each (sym mine.1 ∙ whole)) [
        | inl f ↦ inl (front_shown one.messages ns f)
        | inr f ↦ inr (front_shown ns one.messages f)
      ] in
      asks_fronts (up_to_close (shown one.messages)) (up_to_close (shown ns)) ys one.exchanges r
      (unused ++ more) both asked one.asked first one.whole
      (same_pairs w _ (pairs ++ more) one.taken given.taken ∙ ap (λ k. k ++ more) are
      ∙ append_assoc (pairs_of ys) unused more)

  -- what is a beginning of their texts is a beginning of all
  began : (ys : List (Asked Parts)) (out : List ℕ) → Front ys one.exchanges
      → Front out (texts answer_for V ys) → Sends w' out
      → SentBeginning w w'
  began ys out first part sends =
      let all = front_trans out (texts answer_for V ys) (texts answer_for V one.exchanges) part
      (front_texts V ys one.exchanges first) in
      record {
        out = out;
        later = all.0 ++ last_text served.fault;
        sent = subst (Sends w) (ap (λ t. t ++ last_text served.fault) all.1
            ∙ append_assoc out all.0 (last_text served.fault)) (one.answered V given.before).0;
        sent' = sends;
      }

  -- and so of a service that stopped, by the messages that it read, its pairs and its exchanges
  of_stop : Takes w' pairs → (b : List ℕ) (ns : List Request) (rest : List ℕ) (left : Option (List ℕ))
      → Consumes (Some bytes) left b → b ≡ flat_map print_message ns ++ rest → All IsMessage ns
      → (r : List Parts) (unused : List Pair) (ys : List (Asked Parts)) → Takes w' (pairs_of ys ++ unused)
      → up_to_close (shown ns) ≡ units_of ys ++ r → All (Asks message_kind) ys
      → (out : List ℕ) → Front out (texts answer_for V ys) → Sends w' out → SentBeginning w w'
  of_stop takes b ns rest left read is each r unused ys taken first asked out part sends =
      let mine = whole_of bytes b (flat_map print_message ns) rest left read is in
      began ys out
      (first_ones ns mine.0 each mine.1 r unused ys
      (same_pairs w' pairs (pairs_of ys ++ unused) takes taken) first asked)
      part sends

  -- all pairs that were taken were used
  used : (some : List Pair) → Takes w' some → Takes w' (some ++ [])
  used some taken = subst (Takes w') (sym (append-nil some)) taken

  all_of : (out : List ℕ) → Front out out
  all_of out = ([], sym (append-nil out))

  -- a fault among the messages
  of_stops : (e : ServeFault) → Takes w' pairs → IsBefore w' V → (b : List ℕ) (ns : List Request)
      (rest : List ℕ) (left : Option (List ℕ)) → Consumes (Some bytes) left b
      → b ≡ flat_map print_message ns ++ rest → All IsMessage ns
      → StopsWithin message_kind [] w' (up_to_close (shown ns)) e → SentBeginning w w'
  of_stops stop.Source takes before b ns rest left read is each (next, r, s) =
      let xs = s.exchanges in
      of_stop takes b ns rest left read is each (next ∷ r) [] xs (used _ s.known.taken) s.whole s.known.asked
      (texts answer_for V xs) (all_of (texts answer_for V xs)) (s.known.answered V before).0
  of_stops stop.Read takes before b ns rest left read is each s =
      let xs = s.exchanges in
      of_stop takes b ns rest left read is each [] [] xs (used _ s.done.taken)
      (sym s.whole ∙ sym (append-nil _)) s.done.asked
      (texts answer_for V xs) (all_of (texts answer_for V xs)) (s.done.answered V before).0
  of_stops stop.Write takes before b ns rest left read is each (x, r, s) =
      let xs = s.exchanges in
      of_stop takes b ns rest left read is each r [] (xs ++ x ∷ []) (used _ s.known.taken)
      (with_next _ r xs x s.whole) s.known.asked
      (texts answer_for V xs ++ take s.known.sent (text_at answer_for (vault_after V xs) x))
      (front_part V xs x s.known.sent) (s.known.answered V before).1
  of_stops stop.Store takes before b ns rest left read is each (x, r, s) =
      let xs = s.exchanges in
      of_stop takes b ns rest left read is each r [] (xs ++ x ∷ []) (used _ s.known.taken)
      (with_next _ r xs x s.whole) s.known.asked (texts answer_for V xs)
      (front_texts V xs (xs ++ x ∷ []) (x ∷ [], refl)) (s.known.answered V before).0
  of_stops stop.Memory takes before b ns rest left read is each (inl (r, s)) =
      let xs = s.exchanges in
      of_stop takes b ns rest left read is each r s.known.unused xs s.known.taken s.whole s.known.asked
      (texts answer_for V xs) (all_of (texts answer_for V xs)) (s.known.answered V before).0
  of_stops stop.Memory takes before b ns rest left read is each (inr (x, r, s)) =
      let xs = s.exchanges in
      of_stop takes b ns rest left read is each r [] (xs ++ x ∷ []) (used _ s.known.taken)
      (with_next _ r xs x s.whole) s.known.asked (texts answer_for V xs)
      (front_texts V xs (xs ++ x ∷ []) (x ∷ [], refl)) (s.known.answered V before).0

  of_among : (e : ServeFault) → Takes w' pairs → IsBefore w' V
      → (left : Option (List ℕ)) (f : Option WireFault) → StopsAmong e (Some bytes) left w' f
      → SentBeginning w w'
  of_among e takes before left f s =
      of_stops e takes before s.bytes s.messages s.reads.0 left s.read s.reads.1.whole s.reads.1.each s.stops

  no_more : (ys xs : List (Asked Parts)) → length xs ≡ length ys → Front ys xs → xs ≡ ys
  no_more ys xs same (later, is) =
      let none = (let sum = length-append ys later in let all = ap length is in
      let zero_more : length later ≡ 0 = omega (arith, same, sum, all) in zero_more) in
      is ∙ ap (λ t. ys ++ t) (empty later none) ∙ append-nil ys
    where
      empty : (zs : List (Asked Parts)) → length zs ≡ 0 → zs ≡ []
      empty [] none = refl
      empty (z ∷ zs) none = let never : ⊥ = omega (arith, none) in absurd never

  -- a beginning of the text of a fault went out
  of_fault : Takes w' pairs → IsBefore w' V → (left : Option (List ℕ)) → StopsAtFault (Some bytes) left w'
      → SentBeginning w w' ⊎ (HasAmbiguousRest bytes × SentBeginningTillFault w w' served)
  of_fault takes before left s =
      let both = alike bytes one.bytes s.bytes given.left left one.messages s.messages one.fault
      (Some s.fault)
      one.read s.read one.reads s.reads one.ended (λ still none. absurd (cc)) in
      let all_asked = up_to_close-none (shown s.messages) s.open_till in
      let is_answered = ap (λ (c : Bool). cond c None (Some s.fault)) s.open_till in
      let mine = whole_of bytes s.bytes (flat_map print_message s.messages) s.reads.0 left s.read
      s.reads.1.whole
      in
      let first = first_ones s.messages mine.0 s.reads.1.each mine.1 [] [] s.exchanges
      (same_pairs w' pairs (pairs_of s.exchanges ++ []) takes (used _ s.taken))
      (all_asked ∙ sym s.whole ∙ sym (append-nil _)) s.asked in
      let count : length one.exchanges ≡ length s.exchanges =
      sym (length-map one.exchanges (λ (x : Asked Parts). x.unit))
      ∙ ap length (one.whole ∙ both.0 ∙ all_asked ∙ sym s.whole)
      ∙ length-map s.exchanges (λ (x : Asked Parts). x.unit) in
      let same = no_more s.exchanges one.exchanges count first in
      let text = fault_text s.fault in
      let sends = (s.answered V before).0 in
      let sent : Sends w (texts answer_for V s.exchanges ++ last_text served.fault) =
      subst (λ xs. Sends w (texts answer_for V xs ++ last_text served.fault)) same
      (one.answered V given.before).0 in
      elim both.1 [
        | inl equal ↦ inl (record {
          out = texts answer_for V s.exchanges ++ take s.sent text;
          later = drop s.sent text;
          sent = subst (Sends w)
              (ap (λ f. texts answer_for V s.exchanges ++ last_text f) (one.told ∙ equal ∙ is_answered)
              ∙ ap (λ t. texts answer_for V s.exchanges ++ t) (sym (take-append-drop s.sent text))
              ∙ sym (append_assoc (texts answer_for V s.exchanges) (take s.sent text) (drop s.sent text)))
              sent;
          sent' = sends;
        })
        | inr two ↦ inr (
          two.0,
          record {
            out = texts answer_for V s.exchanges;
            other = s.fault;
            part = s.sent;
            sent = sent;
            sent' = sends;
            fault = subst IsOfHead (sym one.told) two.1;
            fault' = subst IsOfHead is_answered two.2;
          },
        )
      ]

  stopped_by : (e : ServeFault) → Takes w' pairs → IsBefore w' V → (left : Option (List ℕ))
      → IsStopped (Some bytes) left w' e
      → SentBeginning w w' ⊎ (HasAmbiguousRest bytes × SentBeginningTillFault w w' served)
  stopped_by stop.Source takes before left (f, s) = inl (of_among stop.Source takes before left f s)
  stopped_by stop.Read takes before left s = inl (of_among stop.Read takes before left None s)
  stopped_by stop.Write takes before left (inl (f, s)) = inl (of_among stop.Write takes before left f s)
  stopped_by stop.Write takes before left (inr s) = of_fault takes before left s
  stopped_by stop.Store takes before left (f, s) = inl (of_among stop.Store takes before left f s)
  stopped_by stop.Memory takes before left s =
      inl (of_stops stop.Memory takes before s.bytes s.messages s.begins.rest left s.read s.begins.whole
      s.begins.each s.stops)

pub stopped : (w w' : Passage) → StoppedServicesAgree w w'
stopped w w' bytes pairs more V served e given stops =
    stopped_by w w' bytes pairs more V served given e stops.taken stops.before stops.left stops.does
