-- What is said of a connection over tables, said of the vaults that they hold.
use Rattle.std.proofs.Common.{◌≡◌, ◌≢◌, ◌<◌, ℕ, List, [], ◌++◌, ◌∷◌, ap, inl, inr, length, refl, subst}
use Rattle.std.proofs.Common.{false, sym, take}
use Rattle.std.specs.Prelude.{MatchResult, None, Option, Result, Ok, Err}
use Rattle.vault_core.specs.Vault.{Vault as Content}
use Rattle.vault_wire.specs.Parts.{Parts}
use Rattle.vault_wire.specs.declared.fault.WireFault.{WireFault}
use Rattle.vault_engine.specs.Answered.{Answered, AnsweredBefore, CutAt, SilentAt, UndecidedAt}
use Rattle.vault_engine.specs.Asking.{Asked, text_at, texts, vault_after}
use Rattle.vault_engine.specs.Passing.{IsBefore, Keeps, Passage, Sends}
use Rattle.vault_engine.specs.Within.{FirstOf, StopsWithin}
use Rattle.vault_http.specs.Exchanges.{answer_for, fault_text, last_text, message_kind, shown, up_to_close}
use Rattle.vault_http.specs.Served.{IsServed, IsStopped, StopsAmong, StopsAtFault}
use Rattle.vault_engine.specs.declared.stop.Stop.{Stop as ServeFault}
use Rattle.vault_engine.specs.declared.stop.Stop.TheVariants as fault
use Rattle.vault_http.specs.declared.served.Served.{Served}

-- the same passage from one vault to another
abbrev pub from : Passage → Content → Content → Content → Passage
from w V W U = record w {
  honest = Unit {0};
  held_old = λ A. A ≡ V;
  held_new = λ A. A ≡ W;
  left_new = λ A B. (A ≡ W) × (B ≡ U);
  broken = false;
}

-- what is true of the vault that is held before is true of each that is
at : (w : Passage) (V W U : Content) (P : Content → Type 0) → P V → (A : Content)
    → IsBefore (from w V W U) A → P A
at w V W U P h A before = subst P (sym before.1) h

module _ (w : Passage) (V : Content) (b : IsBefore w V) where
  -- a vault is kept, and this is true of the passage to it
  abbrev pub Settles : (Passage → Type 0) → Type 0
  Settles P = (M : Content) × Keeps w M × P (from w V M M)

  -- the vault that these leave is kept
  kept_by : (ys : List (Asked Parts)) (P : Passage → Type 0) → Keeps w (vault_after V ys)
      → P (from w V (vault_after V ys) (vault_after V ys)) → Settles P
  kept_by ys P kept h = (vault_after V ys, kept, h)

  -- what went out answers the first, and the vault that they and others leave is kept
  sent_all : (xs ys : List (Asked Parts)) → Sends w (texts answer_for V xs) → (A : Content)
      → IsBefore (from w V (vault_after V ys) (vault_after V ys)) A
      → Sends w (texts answer_for A xs)
      × Keeps (from w V (vault_after V ys) (vault_after V ys)) (vault_after A ys)
  sent_all xs ys sent = let M = vault_after V ys in
      at w V M M (λ A. Sends w (texts answer_for A xs) × Keeps (from w V M M) (vault_after A ys))
      (sent, (refl, (refl, refl)))

  all_done : (xs : List (Asked Parts)) → Answered message_kind [] w xs
      → Settles (λ p. Answered message_kind [] p xs)
  all_done xs q = kept_by xs (λ p. Answered message_kind [] p xs) (q.answered V b).1 (record {
    taken = q.taken;
    asked = q.asked;
    answered = sent_all xs xs (q.answered V b).0;
  })

  before_one : (xs : List (Asked Parts)) → AnsweredBefore message_kind [] w xs
      → Settles (λ p. AnsweredBefore message_kind [] p xs)
  before_one xs q = kept_by xs (λ p. AnsweredBefore message_kind [] p xs) (q.answered V b).1 (record {
    unused = q.unused;
    one = q.one;
    taken = q.taken;
    asked = q.asked;
    answered = sent_all xs xs (q.answered V b).0;
  })

  cut_one : (x : Asked Parts) (xs : List (Asked Parts)) → CutAt message_kind [] w xs x
      → Settles (λ p. CutAt message_kind [] p xs x)
  cut_one x xs q = let M = vault_after V (xs ++ x ∷ []) in
      kept_by (xs ++ x ∷ []) (λ p. CutAt message_kind [] p xs x) (q.answered V b).2 (record {
        sent = q.sent;
        taken = q.taken;
        asked = q.asked;
        answered = at w V M M (λ A. (q.sent < length (text_at answer_for (vault_after A xs) x))
            × Sends w (texts answer_for A xs ++ take q.sent (text_at answer_for (vault_after A xs) x))
            × Keeps (from w V M M) (vault_after A (xs ++ x ∷ [])))
            ((q.answered V b).0, (q.answered V b).1, (refl, (refl, refl)));
      })

  silent_one : (x : Asked Parts) (xs : List (Asked Parts)) → SilentAt message_kind [] w xs x
      → Settles (λ p. SilentAt message_kind [] p xs x)
  silent_one x xs q =
      kept_by (xs ++ x ∷ []) (λ p. SilentAt message_kind [] p xs x) (q.answered V b).1 (record {
        taken = q.taken;
        asked = q.asked;
        answered = sent_all xs (xs ++ x ∷ []) (q.answered V b).0;
      })

  -- what is true of the first messages
  of_first : (us rest : List Parts) (Known : Passage → List (Asked Parts) → Type 0)
      → ((xs : List (Asked Parts)) → Known w xs → Settles (λ p. Known p xs)) → FirstOf us rest (Known w)
      → Settles (λ p. FirstOf us rest (Known p))
  of_first us rest Known settles q = let it = settles q.exchanges q.known in
      (it.0, it.1, record { exchanges = q.exchanges; whole = q.whole; known = it.2 })

  -- but where the store fails
  stops : (e : ServeFault) (ps : List Parts) → e ≢ fault.Store → StopsWithin message_kind [] w ps e
      → Settles (λ p. StopsWithin message_kind [] p ps e)
  stops fault.Source ps n (next, rest, q) =
      let it = of_first ps (next ∷ rest) (λ p. Answered message_kind [] p) all_done q in
      (it.0, it.1, (next, rest, it.2))
  stops fault.Read ps n q = let it = all_done q.exchanges q.done in
      (it.0, it.1, record { exchanges = q.exchanges; whole = q.whole; done = it.2 })
  stops fault.Write ps n (x, rest, q) =
      let it = of_first ps (x.unit ∷ rest) (λ p xs. CutAt message_kind [] p xs x) (cut_one x) q in
      (it.0, it.1, (x, rest, it.2))
  stops fault.Store ps n q = absurd (n refl)
  stops fault.Memory ps n (inl (rest, q)) =
      let it = of_first ps rest (λ p. AnsweredBefore message_kind [] p) before_one q in
      (it.0, it.1, inl (rest, it.2))
  stops fault.Memory ps n (inr (x, rest, q)) =
      let it = of_first ps (x.unit ∷ rest) (λ p xs. SilentAt message_kind [] p xs x) (silent_one x) q in
      (it.0, it.1, inr (x, rest, it.2))

  among : (e : ServeFault) (old new : Option (List ℕ)) (f : Option WireFault) → e ≢ fault.Store
      → StopsAmong e old new w f → Settles (λ p. StopsAmong e old new p f)
  among e old new f n q = let it = stops e (up_to_close (shown q.messages)) n q.stops in (
    it.0,
    it.1,
    record {
      bytes = q.bytes;
      messages = q.messages;
      read = q.read;
      reads = q.reads;
      stops = it.2;
    },
  )

  at_fault : (old new : Option (List ℕ)) → StopsAtFault old new w → Settles (StopsAtFault old new)
  at_fault old new q = let M = vault_after V q.exchanges in (
    M,
    (q.answered V b).1,
    record {
      bytes = q.bytes;
      messages = q.messages;
      fault = q.fault;
      exchanges = q.exchanges;
      sent = q.sent;
      read = q.read;
      reads = q.reads;
      open_till = q.open_till;
      taken = q.taken;
      asked = q.asked;
      whole = q.whole;
      part = q.part;
      answered = at w V M M (λ A. Sends w (texts answer_for A q.exchanges ++ take q.sent (fault_text q.fault))
          × Keeps (from w V M M) (vault_after A q.exchanges)) ((q.answered V b).0, (refl, (refl, refl)));
    },
  )

  stopped : (e : ServeFault) (old new : Option (List ℕ)) → e ≢ fault.Store → IsStopped old new w e
      → Settles (λ p. IsStopped old new p e)
  stopped fault.Source old new n (f, q) =
      let it = among fault.Source old new f n q in (it.0, it.1, (f, it.2))
  stopped fault.Read old new n q = among fault.Read old new None n q
  stopped fault.Write old new n (inl (f, q)) =
      let it = among fault.Write old new f n q in (it.0, it.1, inl (f, it.2))
  stopped fault.Write old new n (inr q) = let it = at_fault old new q in (it.0, it.1, inr it.2)
  stopped fault.Store old new n q = absurd (n refl)
  stopped fault.Memory old new n q =
      let it = stops fault.Memory (up_to_close (shown q.messages)) n q.stops in (
        it.0,
        it.1,
        record {
          bytes = q.bytes;
          messages = q.messages;
          read = q.read;
          begins = q.begins;
          stops = it.2;
        },
      )

  served : (s : Served) (old new : Option (List ℕ)) → IsServed old new w s
      → Settles (λ p. IsServed old new p s)
  served s old new q = let M = vault_after V q.exchanges in (
    M,
    (q.answered V b).1,
    record {
      bytes = q.bytes;
      messages = q.messages;
      fault = q.fault;
      exchanges = q.exchanges;
      read = q.read;
      reads = q.reads;
      taken = q.taken;
      asked = q.asked;
      whole = q.whole;
      counted = q.counted;
      told = q.told;
      ended = q.ended;
      answered = at w V M M (λ A. Sends w (texts answer_for A q.exchanges ++ last_text s.fault)
          × Keeps (from w V M M) (vault_after A q.exchanges)) ((q.answered V b).0, (refl, (refl, refl)));
    },
  )

  -- a connection in which the store doesn't fail leaves one vault
  pub settled : (r : Result Served ServeFault) (old new : Option (List ℕ)) → r ≢ Err fault.Store
      → MatchResult r (IsServed old new w) (IsStopped old new w)
      → Settles (λ p. MatchResult r (IsServed old new p) (IsStopped old new p))
  settled (Ok s) old new n q = served s old new q
  settled (Err e) old new n q = stopped e old new (λ same. n (ap Err same)) q

  undecided : (old new : Option (List ℕ)) → IsStopped old new w fault.Store
      → (M U : Content) × w.left_new M U × IsStopped old new (from w V M U) fault.Store
  undecided old new (f, q) =
      let x : Asked Parts = q.stops.0 in
      let s = q.stops.2 in
      let xs = s.exchanges in
      let M = vault_after V xs in
      let U = vault_after V (xs ++ x ∷ []) in
      let known : UndecidedAt message_kind [] (from w V M U) xs x = record {
        taken = s.known.taken;
        asked = s.known.asked;
        answered = at w V M U (λ A. Sends w (texts answer_for A xs)
            × (from w V M U).left_new (vault_after A xs) (vault_after A (xs ++ x ∷ [])))
            ((s.known.answered V b).0, (refl, refl));
      } in (
        M,
        U,
        (s.known.answered V b).1,
        (
          f,
          record {
            bytes = q.bytes;
            messages = q.messages;
            read = q.read;
            reads = q.reads;
            stops = (x, q.stops.1, record { exchanges = xs; whole = s.whole; known = known });
          },
        ),
      )

  -- one in which it fails leaves the one or the other
  pub torn : (r : Result Served ServeFault) (old new : Option (List ℕ)) → r ≡ Err fault.Store
      → MatchResult r (IsServed old new w) (IsStopped old new w)
      → (M U : Content) × w.left_new M U
      × MatchResult r (IsServed old new (from w V M U)) (IsStopped old new (from w V M U))
  torn (Ok s) old new is q = absurd (cc (is))
  torn (Err e) old new is q =
      let same : e ≡ fault.Store = cc (is) in
      let it = undecided old new (subst (IsStopped old new w) same q) in
      (it.0, it.1, it.2, subst (IsStopped old new (from w V it.0 it.1)) (sym same) it.3)
