-- Two services of the same bytes, pairs and vault do the same.
use Rattle.std.proofs.Common.{◌≡◌, List, ◌++◌, length, inl, inr, sym, ap, ◌∙◌, subst}
use Rattle.std.proofs.lemmas.List.{append_cancel_left}
use Rattle.vault_http.specs.Exchanges.{answer_for, last_text}
use Rattle.vault_engine.specs.Asking.{Pair, texts, vault_after}
use Rattle.vault_engine.specs.Passing.{Keeps, Passage, Sends, Takes}
use Rattle.vault_promise.specs.Agreement.{IsOfHead}
use Rattle.vault_promise.specs.Service.{ServicesAgree}
use Rattle.vault_promise.proofs.Streams.{alike}
use Rattle.vault_promise.proofs.Wanting.{asked_one}

-- the pairs that were taken are these
pub same_pairs : (w : Passage) (pairs others : List Pair) → Takes w pairs → Takes w others → pairs ≡ others
same_pairs w pairs others a b = append_cancel_left w.given_old pairs others (sym a ∙ b)

pub services : (w w' : Passage) → ServicesAgree w w'
services w w' bytes pairs V served served' given given' =
    let one = given.does in
    let other = given'.does in
    let both = alike bytes one.bytes other.bytes given.left given'.left one.messages other.messages
    one.fault other.fault
    one.read other.read one.reads other.reads one.ended other.ended in
    let units = one.whole ∙ both.0 ∙ sym other.whole in
    let taken = same_pairs w _ pairs one.taken given.taken
    ∙ sym (same_pairs w' _ pairs other.taken given'.taken) in
    let same : one.exchanges ≡ other.exchanges =
    asked_one one.exchanges other.exchanges one.asked other.asked units taken in
    let count : served.messages ≡ served'.messages =
    one.counted ∙ ap length same ∙ sym other.counted in
    let first = one.answered V given.before in
    let second = other.answered V given'.before in
    let kept' : Keeps w' (vault_after V one.exchanges) =
    subst (λ xs. Keeps w' (vault_after V xs)) (sym same) second.1 in
    let sent' : Sends w' (texts answer_for V one.exchanges ++ last_text served'.fault) =
    subst (λ xs. Sends w' (texts answer_for V xs ++ last_text served'.fault)) (sym same) second.0 in
    elim both.1 [
      | inl equal ↦ (
          let fault : served.fault ≡ served'.fault = one.told ∙ equal ∙ sym other.told in
          inl (record {
            out = texts answer_for V one.exchanges ++ last_text served.fault;
            sent = first.0;
            sent' = subst (λ f. Sends w' (texts answer_for V one.exchanges ++ last_text f)) (sym fault) sent';
            told = λ i. record { messages = count i; fault = fault i };
            after = vault_after V one.exchanges;
            kept = first.1;
            kept' = kept';
          })
          )
      | inr two ↦ inr (
        two.0,
        record {
          out = texts answer_for V one.exchanges;
          sent = first.0;
          sent' = sent';
          messages = count;
          fault = subst IsOfHead (sym one.told) two.1;
          fault' = subst IsOfHead (sym other.told) two.2;
          after = vault_after V one.exchanges;
          kept = first.1;
          kept' = kept';
        },
      )
    ]
