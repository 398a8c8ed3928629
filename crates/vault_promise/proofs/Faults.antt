-- The faults of bytes after their last whole message.
use Rattle.std.proofs.Common.{◌≡◌, ◌⊎◌, ℕ, List, ◌++◌, [], ◌+◌, ◌-◌, length, take, Option, Some, None, Ok}
use Rattle.std.proofs.Common.{Err}
use Rattle.std.proofs.Common.{inl, inr, ap, arith, refl, sym, ◌∙◌}
use Rattle.std.proofs.Math.Seq.{take-append-add}
use Rattle.std.proofs.Common.{◌∷◌, All, drop, subst, append_assoc, take-append-drop}
use Rattle.std.specs.List.{flat_map}
use Rattle.std.proofs.lemmas.Bool.{cases_lt}
use Rattle.std.proofs.lemmas.List.{append-nil, append_cancel_left}
use Rattle.std.proofs.lemmas.List.Elements.{All-head, All-tail}
use Rattle.httparse.specs.Grammar.{HasNoRequest, NeverHasRequest, ReadsRequest, RequestHead, print_request}
use Rattle.httparse.proofs.GrammarLemmas.{ReadsRequest-append, request_unique}
use Rattle.vault_wire.specs.Fields.{body_size}
use Rattle.vault_wire.specs.Messages.{BeginsShort, Ends, IsOpen}
use Rattle.vault_wire.specs.Messages.{HasNoMessage, IsMessage, ReadsThen, Request, SaysNoBody, Stands}
use Rattle.vault_wire.specs.Messages.{pairs_of, print_message}
use Rattle.vault_wire.proofs.Unique.{ends_alone, first_unique, one_reading}
use Rattle.vault_wire.specs.declared.fault.WireFault.{WireFault}
use Rattle.vault_wire.specs.declared.fault.WireFault.TheVariants as fault
use Rattle.vault_promise.specs.Agreement.{AmbiguousFitsTwo, FaultsDifferOnlyWhereAmbiguous, IsAmbiguous}
use Rattle.vault_promise.specs.Agreement.{IsOfHead, IsRest}
use Rattle.vault_promise.specs.Agreement.{WholeHeadsAgree}

-- what a whole head within the limits says of its body is one thing
one_size : (bytes : List ℕ) (h k : RequestHead) (x y : List ℕ) → BeginsShort bytes h x → BeginsShort bytes k y
    → body_size (pairs_of h) ≡ body_size (pairs_of k)
one_size bytes h k x y a b = ap (λ z. body_size (pairs_of z)) (request_unique bytes h k x y a.0 b.0).0

-- such a head leaves no room for a fault of the head
no_head_fault : (bytes : List ℕ) (h : RequestHead) (x : List ℕ) → BeginsShort bytes h x
    → Stands fault.BadHead bytes ⊎ Stands fault.HeadTooLarge bytes → ⊥
no_head_fault bytes h x a (inl never) = never [] h x (a.0.0, append-nil bytes ∙ a.0.1)
no_head_fault bytes h x a (inr (inl long)) =
    let p : List ℕ = print_request h in
    let few = a.1.bytes in
    let k : length p + (8192 - length p) ≡ 8192 = omega arith in
    let cut : take 8192 (p ++ x) ≡ p ++ take (8192 - length p) x =
    ap (λ n. take n (p ++ x)) (sym k) ∙ take-append-add p x (8192 - length p) in
    long.1 h (take (8192 - length p) x) (a.0.0, ap (take 8192) a.0.1 ∙ cut)
no_head_fault bytes h x a (inr (inr many)) =
    let few = a.1.fields in
    let more = many.1 [] h x (a.0.0, append-nil bytes ∙ a.0.1) in
    omega (arith, few, more)

-- nor is it open where its body is refused
not_open : (bytes : List ℕ) (e : WireFault) → SaysNoBody e bytes → IsOpen bytes → ⊥
not_open bytes e (h, x, a, says) (inl w) = w.none h x a.0
not_open bytes e (h, x, a, says) (inr (k, y, size, w)) =
    let same = one_size bytes h k x y a w.head in
    let is : Err e ≡ Ok size = sym says ∙ same ∙ w.size_is in
    absurd (cc (is))

-- the body is refused by one fault
one_fault : (bytes : List ℕ) (d e : WireFault) → SaysNoBody d bytes → SaysNoBody e bytes → Some d ≡ Some e
one_fault bytes d e (h, x, a, says) (k, y, b, other) =
    let is : Err d ≡ Err e = sym says ∙ one_size bytes h k x y a b ∙ other in cc (is)

-- where the body is refused it is by one fault, and nothing else stands
refused_alone : (bytes : List ℕ) (d : WireFault) (e : Option WireFault) → SaysNoBody d bytes → Ends bytes e
    → Some d ≡ e
refused_alone bytes d None says more = absurd (not_open bytes d says more)
refused_alone bytes d (Some fault.BadHead) (h, x, a, says) f = absurd (no_head_fault bytes h x a (inl f))
refused_alone bytes d (Some fault.HeadTooLarge) (h, x, a, says) f = absurd (no_head_fault bytes h x a (inr f))
refused_alone bytes d (Some fault.BadLength) says more = one_fault bytes d fault.BadLength says more
refused_alone bytes d (Some fault.NoCoding) says more = one_fault bytes d fault.NoCoding says more
refused_alone bytes d (Some fault.BodyTooLarge) says more = one_fault bytes d fault.BodyTooLarge says more
refused_alone bytes d (Some fault.Memory) says never = absurd never

-- a fault is one of the body, or none or one of the head
abbrev Kind : List ℕ → Option WireFault → Type 0
Kind bytes e = IsOfHead e ⊎ ((d : WireFault) × SaysNoBody d bytes × (e ≡ Some d))

kind_of : (bytes : List ℕ) (e : Option WireFault) → Ends bytes e → Kind bytes e
kind_of bytes None ends = inl (inl refl)
kind_of bytes (Some fault.BadHead) ends = inl (inr (inl refl))
kind_of bytes (Some fault.HeadTooLarge) ends = inl (inr (inr refl))
kind_of bytes (Some fault.BadLength) ends = inr (fault.BadLength, ends, refl)
kind_of bytes (Some fault.NoCoding) ends = inr (fault.NoCoding, ends, refl)
kind_of bytes (Some fault.BodyTooLarge) ends = inr (fault.BodyTooLarge, ends, refl)
kind_of bytes (Some fault.Memory) never = absurd never

pub ends_agree : (bytes : List ℕ) (d e : Option WireFault) → Ends bytes d → Ends bytes e
    → (d ≡ e) ⊎ (IsOfHead d × IsOfHead e)
ends_agree bytes d e a b =
    elim (kind_of bytes d a) [
      | inr body ↦ inl (body.2 ∙ refused_alone bytes body.0 e body.1 b)
      | inl one ↦ elim (kind_of bytes e b) [
        | inr body ↦ inl (sym (body.2 ∙ refused_alone bytes body.0 d body.1 a))
        | inl other ↦ inr (one, other)
      ]
    ]

-- where bytes are open, and no bytes can follow that make a head, they end within a target
none_or_bad : (bytes : List ℕ) → IsOpen bytes → NeverHasRequest bytes → IsAmbiguous bytes
none_or_bad bytes (inl w) never =
    elim w.unfinished [
      | inl becomes ↦ absurd (never becomes.0 becomes.1 [] becomes.2)
      | inr target ↦ inl (never, inl target)
    ]
none_or_bad bytes (inr (h, x, size, w)) never = absurd (no_head_fault bytes h x w.head (inl never))

-- where bytes are open, and past a limit of heads, a 33rd field has come
none_or_large : (bytes : List ℕ) → IsOpen bytes → Stands fault.HeadTooLarge bytes → IsAmbiguous bytes
none_or_large bytes (inl w) (inl long) =
    let room = w.room in let much = long.0 in absurd (omega (arith, room, much))
none_or_large bytes (inl w) (inr many) = inr (w, many)
none_or_large bytes (inr (h, x, size, w)) large = absurd (no_head_fault bytes h x w.head (inr large))

-- what holds of none, of 50 and of 51
of_heads : (P : Option WireFault → Type 0) → P None → P (Some fault.BadHead) → P (Some fault.HeadTooLarge)
    → (d : Option WireFault) → IsOfHead d → P d
of_heads P none bad large d (inl is) = subst P (sym is) none
of_heads P none bad large d (inr (inl is)) = subst P (sym is) bad
of_heads P none bad large d (inr (inr is)) = subst P (sym is) large

-- none, 50 or 51, twice
heads_ambiguous : (bytes : List ℕ) (d e : Option WireFault) → Ends bytes d → Ends bytes e
    → IsOfHead d → IsOfHead e
    → (d ≡ e) ⊎ IsAmbiguous bytes
heads_ambiguous bytes d e a b k l =
    of_heads (λ x. Ends bytes x → (x ≡ e) ⊎ IsAmbiguous bytes)
    (λ p. of_heads (λ y. Ends bytes y → (None ≡ y) ⊎ IsAmbiguous bytes) (λ q. inl refl)
    (λ q. inr (none_or_bad bytes p q)) (λ q. inr (none_or_large bytes p q)) e l b)
    (λ p. of_heads (λ y. Ends bytes y → (Some fault.BadHead ≡ y) ⊎ IsAmbiguous bytes)
    (λ q. inr (none_or_bad bytes q p)) (λ q. inl refl) (λ q. inr (inl (p, inr q))) e l b)
    (λ p. of_heads (λ y. Ends bytes y → (Some fault.HeadTooLarge ≡ y) ⊎ IsAmbiguous bytes)
    (λ q. inr (none_or_large bytes q p)) (λ q. inr (inl (q, inr p))) (λ q. inl refl) e l b)
    d k a

pub ends_ambiguous : (bytes : List ℕ) (d e : Option WireFault) → Ends bytes d → Ends bytes e
    → (d ≡ e) ⊎ (IsAmbiguous bytes × IsOfHead d × IsOfHead e)
ends_ambiguous bytes d e a b =
    elim (ends_agree bytes d e a b) [
      | inl same ↦ inl same
      | inr heads ↦ elim (heads_ambiguous bytes d e a b heads.0 heads.1) [
        | inl same ↦ inl same
        | inr ambiguous ↦ inr (ambiguous, heads.0, heads.1)
      ]
    ]

-- the bytes after the messages of a reading come after all whole messages
pub rest_of : (bytes rest : List ℕ) (ms : List Request) (e : Option WireFault) → ReadsThen bytes ms e rest
    → IsRest bytes rest
rest_of bytes rest ms e r =
    record { messages = ms; whole = r.whole; each = r.each; none = (ends_alone rest e r.ends).0 }

pub faults_differ : FaultsDifferOnlyWhereAmbiguous
faults_differ bytes ms ns d e a b =
    let same =
    one_reading ms ns a.0 b.0 d e a.1.each b.1.each a.1.ends b.1.ends (sym a.1.whole ∙ b.1.whole) in
    elim (ends_ambiguous a.0 d e a.1.ends (subst (λ rest. Ends rest e) (sym same.1) b.1.ends)) [
      | inl equal ↦ inl equal
      | inr two ↦ inr (a.0, rest_of bytes a.0 ms d a.1, two.0, two.1, two.2)
    ]

-- no head is whole in bytes that can't become one
never_now : (bytes : List ℕ) → NeverHasRequest bytes → HasNoRequest bytes
never_now bytes never h x r = never [] h x (r.0, append-nil bytes ∙ r.1)

-- nor in their beginning
never_before : (n : ℕ) (bytes : List ℕ) → NeverHasRequest bytes → HasNoRequest (take n bytes)
never_before n bytes never h x r =
    never_now bytes never h (x ++ drop n bytes)
    (subst (λ t. ReadsRequest t h (x ++ drop n bytes)) (take-append-drop n bytes)
    (ReadsRequest-append (take n bytes) h x (drop n bytes) r))

pub there_differ : AmbiguousFitsTwo
there_differ bytes (inl (never, inl target)) =
    elim (cases_lt 8192 (length bytes)) [
      | inl long ↦ (
        Some fault.BadHead,
        Some fault.HeadTooLarge,
        (λ same. absurd (cc (same))),
        never,
        inl (long, never_before 8192 bytes never),
      )
      | inr short ↦ (
        None,
        Some fault.BadHead,
        (λ same. absurd (cc (same))),
        inl (record { room = short; none = never_now bytes never; unfinished = inr target }),
        never,
      )
    ]
there_differ bytes (inl (never, inr large)) =
    (Some fault.BadHead, Some fault.HeadTooLarge, (λ same. absurd (cc (same))), never, large)
there_differ bytes (inr (w, many)) =
    (None, Some fault.HeadTooLarge, (λ same. absurd (cc (same))), inl w, inr many)

-- in ambiguous bytes no head is whole
ambiguous_none : (bytes : List ℕ) → IsAmbiguous bytes → HasNoRequest bytes
ambiguous_none bytes (inl (never, why)) = never_now bytes never
ambiguous_none bytes (inr (w, many)) = w.none

-- where two lists of messages are the same bytes, their first ones are one, and so are the bytes after it
pub next_same : (m n : Request) (ms ns : List Request) (x y : List ℕ) → IsMessage m → IsMessage n
    → flat_map print_message (m ∷ ms) ++ x ≡ flat_map print_message (n ∷ ns) ++ y
    → (m ≡ n) × (flat_map print_message ms ++ x ≡ flat_map print_message ns ++ y)
next_same m n ms ns x y a b same =
    let p = flat_map print_message ms ++ x in
    let q = flat_map print_message ns ++ y in
    let both : print_message m ++ p ≡ print_message n ++ q =
    sym (append_assoc (print_message m) (flat_map print_message ms) x) ∙ same
    ∙ append_assoc (print_message n) (flat_map print_message ns) y in
    let one = first_unique (print_message m ++ p) m n (record { message = a; rest = p; whole = refl })
    (record { message = b; rest = q; whole = both }) in
    let cut = both ∙ ap (λ (k : Request). print_message k ++ q) (sym one) in
    (one, append_cancel_left (print_message m) p q cut)

-- what comes after all whole messages is one thing
one_rest : (ms ns : List Request) (x y : List ℕ) → All IsMessage ms → All IsMessage ns → HasNoMessage x
    → HasNoMessage y → flat_map print_message ms ++ x ≡ flat_map print_message ns ++ y → x ≡ y
one_rest [] [] x y a b p q same = same
one_rest [] (n ∷ ns) x y a b p q same =
    absurd (p n (record {
      message = All-head IsMessage n ns b;
      rest = flat_map print_message ns ++ y;
      whole = same ∙ append_assoc (print_message n) (flat_map print_message ns) y;
    }))
one_rest (m ∷ ms) [] x y a b p q same =
    absurd (q m (record {
      message = All-head IsMessage m ms a;
      rest = flat_map print_message ms ++ x;
      whole = sym same ∙ append_assoc (print_message m) (flat_map print_message ms) x;
    }))
one_rest (m ∷ ms) (n ∷ ns) x y a b p q same =
    let tails = next_same m n ms ns x y (All-head IsMessage m ms a) (All-head IsMessage n ns b) same in
    one_rest ms ns x y (All-tail IsMessage m ms a) (All-tail IsMessage n ns b) p q tails.1

pub whole_heads : WholeHeadsAgree
whole_heads bytes rest after h ms ns d e is head a b =
    elim (faults_differ bytes ms ns d e a b) [
      | inl same ↦ same
      | inr two ↦ (
          let one = one_rest is.messages two.1.messages rest two.0 is.each two.1.each is.none two.1.none
          (sym is.whole ∙ two.1.whole) in
          absurd (ambiguous_none two.0 two.2 h after (subst (λ t. ReadsRequest t h after) one head))
          )
    ]
