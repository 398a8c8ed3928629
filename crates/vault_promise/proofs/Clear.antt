-- Bytes that begin whole messages have no ambiguous rest.
use Rattle.std.proofs.Common.{◌≡◌, ℕ, List, [], ◌∷◌, ◌++◌, length, All, inl, inr, refl, sym, ap, ◌∙◌}
use Rattle.std.proofs.Common.{append_assoc, append-nil, arith, length-append}
use Rattle.std.specs.List.{flat_map}
use Rattle.std.proofs.lemmas.List.Elements.{All-head, All-tail}
use Rattle.httparse.specs.Grammar.{ReadsRequest, print_request}
use Rattle.vault_wire.specs.Messages.{IsMessage, Request, print_message}
use Rattle.vault_wire.proofs.ReadingFacts.{head_long}
use Rattle.vault_promise.specs.Agreement.{IsAmbiguous}
use Rattle.vault_promise.specs.Service.{MessagesAreClear}
use Rattle.vault_promise.proofs.Faults.{next_same}

-- some bytes can follow that make these a whole message, and more
record MayBegin (rest : List ℕ) : Type 0 where
  message : Request
  is : IsMessage message
  next : List ℕ
  more : List ℕ
  whole : rest ++ next ≡ print_message message ++ more

-- such bytes aren't ambiguous
clear : (rest : List ℕ) → MayBegin rest → IsAmbiguous rest → ⊥
clear rest b two =
    let reads : ReadsRequest (rest ++ b.next) b.message.head (b.message.body ++ b.more) =
    (b.is.valid, b.whole ∙ append_assoc (print_request b.message.head) b.message.body b.more) in
    elim two [
      | inl never ↦ never.0 b.next b.message.head (b.message.body ++ b.more) reads
      | inr many ↦ (
          let over = many.1.1 b.next b.message.head (b.message.body ++ b.more) reads in
          let few = b.is.short.fields in
          let clash : ⊥ = omega (arith, over, few) in clash
          )
    ]

-- a message has a byte
not_empty : (m : Request) (t : List ℕ) → IsMessage m → print_message m ++ t ≡ [] → ⊥
not_empty m t is same =
    let long = head_long m.head is.valid in
    let one = length-append (print_request m.head) m.body in
    let both = length-append (print_message m) t in
    let none = ap length same in
    omega (arith, long, one, both, none)

-- what is left of whole messages after the first of them may begin one
begins : (ns ms : List Request) (rest later : List ℕ) (m : Request) → IsMessage m → All IsMessage ns
    → All IsMessage ms → flat_map print_message ns ++ (rest ++ later) ≡ flat_map print_message ms ++ []
    → MayBegin rest
begins [] [] rest later m is a b same = record {
  message = m;
  is = is;
  next = print_message m;
  more = [];
  whole = ap (λ t. t ++ print_message m) (empty rest same) ∙ sym (append-nil (print_message m));
}
  where
    empty : (xs : List ℕ) → xs ++ later ≡ [] → xs ≡ []
    empty [] e = refl
    empty (x ∷ xs) e = absurd (cc)
begins [] (k ∷ ms) rest later m is a b same = record {
  message = k;
  is = All-head IsMessage k ms b;
  next = later;
  more = flat_map print_message ms ++ [];
  whole = same ∙ append_assoc (print_message k) (flat_map print_message ms) [];
}
begins (n ∷ ns) [] rest later m is a b same =
    absurd (not_empty n (flat_map print_message ns ++ (rest ++ later)) (All-head IsMessage n ns a)
    (sym (append_assoc (print_message n) (flat_map print_message ns) (rest ++ later)) ∙ same))
begins (n ∷ ns) (k ∷ ms) rest later m is a b same =
    let tails =
    next_same n k ns ms (rest ++ later) [] (All-head IsMessage n ns a) (All-head IsMessage k ms b) same in
    begins ns ms rest later m is (All-tail IsMessage n ns a) (All-tail IsMessage k ms b) tails.1

pub messages_clear : MessagesAreClear
messages_clear bytes more m ms each same has =
    let parts : flat_map print_message has.after.messages ++ (has.rest ++ (has.later ++ more))
    ≡ flat_map print_message (m ∷ ms) ++ [] =
    sym (append_assoc (flat_map print_message has.after.messages) has.rest (has.later ++ more))
    ∙ ap (λ t. t ++ (has.later ++ more)) (sym has.after.whole)
    ∙ sym (append_assoc has.front has.later more) ∙ ap (λ t. t ++ more) (sym has.whole) ∙ same
    ∙ sym (append-nil (flat_map print_message (m ∷ ms))) in
    clear has.rest
    (begins has.after.messages (m ∷ ms) has.rest (has.later ++ more) m (All-head IsMessage m ms each)
    has.after.each each parts) has.ambiguous
