-- Two readings of the bytes of one connection, of which one may have read more.
use Rattle.std.proofs.Common.{◌≡◌, ◌⊎◌, ℕ, Bool, true, false, cond, List, [], ◌∷◌, ◌++◌, All, Option, Some}
use Rattle.std.proofs.Common.{None, inl, inr, refl, sym, ap, ap₂, ◌∙◌, subst, append_assoc}
use Rattle.std.specs.List.{flat_map}
use Rattle.std.specs.Io.KnownBytes.{Consumes, IsAtEnd}
use Rattle.std.specs.Prelude.{◌||◌}
use Rattle.std.proofs.lemmas.List.{append-nil, map-append}
use Rattle.std.proofs.lemmas.List.Elements.{All-head, All-tail}
use Rattle.vault_wire.specs.Messages.{HasNoMessage, IsMessage, Reads, Request, print_message}
use Rattle.vault_wire.specs.Parts.{Parts, closes, parts_of}
use Rattle.vault_wire.specs.declared.fault.WireFault.{WireFault}
use Rattle.vault_wire.proofs.ReadingFacts.{fault_more}
use Rattle.vault_wire.proofs.Unique.{ends_alone, one_reading}
use Rattle.vault_http.specs.Exchanges.{has_close, shown, up_to_close}
use Rattle.vault_http.specs.Served.{answered_fault}
use Rattle.vault_promise.specs.Agreement.{IsOfHead}
use Rattle.vault_promise.specs.Service.{HasAmbiguousRest}
use Rattle.vault_promise.proofs.Faults.{faults_differ, next_same}

-- messages that go on after others are those and more
pub goes_on : (ms ns : List Request) (x y : List ℕ) → All IsMessage ms → All IsMessage ns → HasNoMessage y
    → flat_map print_message ms ++ x ≡ flat_map print_message ns ++ y
    → (more : List Request) × (ns ≡ ms ++ more)
goes_on [] ns x y a b none same = (ns, refl)
goes_on (m ∷ ms) [] x y a b none same =
    absurd (none m (record {
      message = All-head IsMessage m ms a;
      rest = flat_map print_message ms ++ x;
      whole = sym same ∙ append_assoc (print_message m) (flat_map print_message ms) x;
    }))
goes_on (m ∷ ms) (n ∷ ns) x y a b none same =
    let tails = next_same m n ms ns x y (All-head IsMessage m ms a) (All-head IsMessage n ns b) same in
    let more = goes_on ms ns x y (All-tail IsMessage m ms a) (All-tail IsMessage n ns b) none tails.1 in
    (more.0, ap₂ (λ k ks. k ∷ ks) (sym tails.0) more.1)

-- of two beginnings of the same bytes the one goes on after the other
pub two_fronts : {X : Type 0} (a b x y : List X) → a ++ x ≡ b ++ y
    → ((m : List X) × (b ≡ a ++ m) × (x ≡ m ++ y)) ⊎ ((m : List X) × (a ≡ b ++ m) × (y ≡ m ++ x))
two_fronts [] b x y same = inl (b, refl, same)
two_fronts (c ∷ a) [] x y same = inr (c ∷ a, refl, sym same)
two_fronts (c ∷ a) (d ∷ b) x y same =
    let head : c ≡ d = (let s = same in cc) in
    let tail : a ++ x ≡ b ++ y = (let s = same in cc) in
    elim (two_fronts a b x y tail) [
      | inl f ↦ inl (f.0, ap₂ (λ k ks. k ∷ ks) (sym head) f.1, f.2)
      | inr f ↦ inr (f.0, ap₂ (λ k ks. k ∷ ks) head f.1, f.2)
    ]

-- where a message closes the connection, what comes after it doesn't count
closed_front : (ps qs : List Parts) → has_close ps ≡ true
    → (up_to_close (ps ++ qs) ≡ up_to_close ps) × (has_close (ps ++ qs) ≡ true)
closed_front [] qs is = absurd (cc)
closed_front (p ∷ ps) qs is = by (closes p) refl (λ more. closed_front ps qs more)
  where
    by : (b : Bool) → closes p ≡ b
        → (has_close ps ≡ true → (up_to_close (ps ++ qs) ≡ up_to_close ps) × (has_close (ps ++ qs) ≡ true))
        → (up_to_close ((p ∷ ps) ++ qs) ≡ up_to_close (p ∷ ps)) × (has_close ((p ∷ ps) ++ qs) ≡ true)
    by true at further = (
      ap (λ (c : Bool). p ∷ cond c [] (up_to_close (ps ++ qs))) at
          ∙ sym (ap (λ (c : Bool). p ∷ cond c [] (up_to_close ps)) at),
      ap (λ (c : Bool). c || has_close (ps ++ qs)) at,
    )
    by false at further =
        let rest = further (sym (ap (λ (c : Bool). c || has_close ps) at) ∙ is) in (
          ap (λ ks. p ∷ cond (closes p) [] ks) rest.0,
          ap (λ (c : Bool). c || has_close (ps ++ qs)) at ∙ rest.1,
        )

-- the same messages are answered, and then the same fault, but where a beginning of the bytes is ambiguous
abbrev pub Alike : List ℕ → List Request → Option WireFault → List Request → Option WireFault → Type 0
Alike bytes ms d ns e =
    (up_to_close (shown ms) ≡ up_to_close (shown ns))
    × ((answered_fault ms d ≡ answered_fault ns e)
    ⊎ (HasAmbiguousRest bytes × IsOfHead (answered_fault ms d) × IsOfHead (answered_fault ns e)))

alike_sym : (bytes : List ℕ) (ms ns : List Request) (d e : Option WireFault) → Alike bytes ms d ns e
    → Alike bytes ns e ms d
alike_sym bytes ms ns d e (same, inl fault) = (sym same, inl (sym fault))
alike_sym bytes ms ns d e (same, inr (two, k, l)) = (sym same, inr (two, l, k))

answered : (X : Type 0) (c : Bool) (d e : Option WireFault) → (d ≡ e) ⊎ (X × IsOfHead d × IsOfHead e)
    → (cond c None d ≡ cond c None e) ⊎ (X × IsOfHead (cond c None d) × IsOfHead (cond c None e))
answered X true d e h = inl refl
answered X false d e h = h

-- two readings of the same bytes
same_bytes : (front later : List ℕ) (ms ns : List Request) (d e : Option WireFault) → Reads front ms d
    → Reads front ns e → Alike (front ++ later) ms d ns e
same_bytes front later ms ns d e a b =
    let same =
    one_reading ms ns a.0 b.0 d e a.1.each b.1.each a.1.ends b.1.ends (sym a.1.whole ∙ b.1.whole) in
    let faults : (d ≡ e) ⊎ (HasAmbiguousRest (front ++ later) × IsOfHead d × IsOfHead e) =
    elim (faults_differ front ms ns d e a b) [
      | inl equal ↦ inl equal
      | inr two ↦ inr (
        record {
          front = front;
          later = later;
          rest = two.0;
          whole = refl;
          after = two.1;
          ambiguous = two.2;
        },
        two.3,
        two.4,
      )
    ] in
    subst (λ ks. Alike (front ++ later) ms d ks e) same.0
    (refl, answered (HasAmbiguousRest (front ++ later)) (has_close (shown ms)) d e faults)

nothing : (m y : List ℕ) → m ++ y ≡ [] → m ≡ []
nothing [] y same = refl
nothing (c ∷ m) y same = absurd (cc)

-- one reading, and one of more bytes
longer : (b m y : List ℕ) (ms ns : List Request) (d e : Option WireFault) → Reads b ms d → Reads (b ++ m) ns e
    → (has_close (shown ms) ≡ false → d ≡ None → m ++ y ≡ []) → Alike ((b ++ m) ++ y) ms d ns e
longer b m y ms ns d e one other ended = by (has_close (shown ms)) refl
  where
    open_till : (f : Option WireFault) → d ≡ f → has_close (shown ms) ≡ false
        → Alike ((b ++ m) ++ y) ms d ns e
    open_till None is still =
        let none = nothing m y (ended still is) in
        let same : b ≡ b ++ m = sym (append-nil b) ∙ ap (λ t. b ++ t) (sym none) in
        same_bytes (b ++ m) y ms ns d e (subst (λ t. Reads t ms d) same one) other
    open_till (Some f) is still =
        same_bytes (b ++ m) y ms ns d e
        (subst (λ g. Reads (b ++ m) ms g) (sym is) (fault_more b m ms f (subst (λ g. Reads b ms g) is one)))
        other

    by : (c : Bool) → has_close (shown ms) ≡ c → Alike ((b ++ m) ++ y) ms d ns e
    by false still = open_till d refl still
    by true closed =
        let more = goes_on ms ns (one.0 ++ m) other.0 one.1.each other.1.each
        (ends_alone other.0 e other.1.ends).0
        (sym (append_assoc (flat_map print_message ms) one.0 m) ∙ ap (λ t. t ++ m) (sym one.1.whole)
        ∙ other.1.whole) in
        let after = closed_front (shown ms) (shown more.0) closed in
        let parts : shown ns ≡ shown ms ++ shown more.0 =
        ap shown more.1 ∙ map-append parts_of ms more.0 in (
          sym (ap up_to_close parts ∙ after.0),
          inl (ap (λ (c : Bool). cond c None d) closed
              ∙ sym (ap (λ (c : Bool). cond c None e) (ap has_close parts ∙ after.1))),
        )

-- two readings of bytes that were taken of the same
pub alike : (bytes b b' : List ℕ) (left left' : Option (List ℕ)) (ms ns : List Request)
    (d e : Option WireFault)
    → Consumes (Some bytes) left b → Consumes (Some bytes) left' b' → Reads b ms d → Reads b' ns e
    → (has_close (shown ms) ≡ false → d ≡ None → IsAtEnd left)
    → (has_close (shown ns) ≡ false → e ≡ None → IsAtEnd left')
    → Alike bytes ms d ns e
alike bytes b b' None left' ms ns d e p q one other end end' = absurd p
alike bytes b b' (Some x) None ms ns d e p q one other end end' = absurd q
alike bytes b b' (Some x) (Some y) ms ns d e p q one other end end' =
    elim (two_fronts b b' x y (sym p ∙ q)) [
      | inl f ↦ subst (λ t. Alike t ms d ns e) (sym (q ∙ ap (λ t. t ++ y) f.1))
          (longer b f.0 y ms ns d e one (subst (λ t. Reads t ns e) f.1 other)
          (λ still none. sym f.2 ∙ end still none))
      | inr f ↦ alike_sym bytes ns ms e d (subst (λ t. Alike t ns e ms d) (sym (p ∙ ap (λ t. t ++ x) f.1))
          (longer b' f.0 x ns ms e d other (subst (λ t. Reads t ms d) f.1 one)
          (λ still none. sym f.2 ∙ end' still none)))
    ]
