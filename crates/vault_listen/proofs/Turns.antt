-- Pairs that were given at turns of their own.
use Rattle.std.proofs.Common.{◌≡◌, ◌+◌, ◌∙◌, ℕ, ◌++◌, ◌∷◌, [], List, Option, None, ap, arith, length, subst}
use Rattle.std.proofs.Common.{sym}
use Rattle.std.specs.Prelude.{All}
use Rattle.std.proofs.Math.Seq.{take-append_seam}
use Rattle.std.proofs.lemmas.List.Elements.{All-append, All-cons, All-nil, All-take}
use Rattle.vault_listen.specs.Live.{AreGiven, AreTold, Begins, Continues, Fixes, IsFrom, IsPairOf, Pair}
use Rattle.vault_listen.specs.Live.{Turns, pairs_of}
use Rattle.vault_listen.specs.declared.live.LiveSource.{LiveSource}

-- one more, told at the next turn
told_then : (tells : Turns) (turn : ℕ) (pairs : List Pair) (next : Pair) → AreTold tells turn pairs
    → tells (turn + length pairs) next.0 → AreTold tells turn (pairs ++ next ∷ [])
told_then tells turn [] next told it =
    let first : turn + 0 ≡ turn = omega arith in (subst (λ k. tells k next.0) first it, tt)
told_then tells turn (pair ∷ pairs) next told it =
    let same : turn + length (pair ∷ pairs) ≡ turn + 1 + length pairs = omega arith in (
      told.0,
      told_then tells (turn + 1) pairs next told.1 (subst (λ k. tells k next.0) same it),
    )

-- the first of them
told_first : (tells : Turns) (turn : ℕ) (pairs more : List Pair) → AreTold tells turn (pairs ++ more)
    → AreTold tells turn pairs
told_first tells turn [] more told = tt
told_first tells turn (pair ∷ pairs) more told = (told.0, told_first tells (turn + 1) pairs more told.1)

-- a source gave nothing
pub none_given : {tells : Turns} {moment : Option ℕ} {digits : Option (List ℕ)}
    → AreGiven tells moment digits []
none_given {moment} {digits} = record { each = All-nil (IsPairOf moment digits); told = λ free. tt }

-- the first pairs that it gave
pub given_first : (tells : Turns) (moment : Option ℕ) (digits : Option (List ℕ)) (pairs more : List Pair)
    → AreGiven tells moment digits (pairs ++ more) → AreGiven tells moment digits pairs
given_first tells moment digits pairs more given = record {
  each = subst (λ ps. All (IsPairOf moment digits) ps) (take-append_seam pairs more)
      (All-take (IsPairOf moment digits) (length pairs) (pairs ++ more) given.each);
  told = λ free. told_first tells 0 pairs more (given.told free);
}

-- a source gave one more
pub given_then : (tells : Turns) (moment : Option ℕ) (digits : Option (List ℕ)) (pairs : List Pair)
    (next : Pair) → AreGiven tells moment digits pairs → IsPairOf moment digits next
    → (moment ≡ None → tells (length pairs) next.0) → AreGiven tells moment digits (pairs ++ next ∷ [])
given_then tells moment digits pairs next given fits it = record {
  each = All-append (IsPairOf moment digits) pairs (next ∷ []) given.each
      (All-cons (IsPairOf moment digits) next [] fits (All-nil (IsPairOf moment digits)));
  told = λ free.
      let turn : length pairs ≡ 0 + length pairs = omega arith in
      told_then tells 0 pairs next (given.told free) (subst (λ k. tells k next.0) turn (it free));
}

-- what is told at turns was told at those of which they tell
told_by : (tells turns : Turns) → ((turn now : ℕ) → tells turn now → turns turn now) → (turn : ℕ)
    → (pairs : List Pair) → AreTold tells turn pairs → AreTold turns turn pairs
told_by tells turns so turn [] told = tt
told_by tells turns so turn (pair ∷ pairs) told =
    (so turn pair.0 told.0, told_by tells turns so (turn + 1) pairs told.1)

-- a source that was made of questions none of which was asked begins with them
pub begun_with : {Q G : Type 0} (tells : Q → Turns) (told : Q → ℕ) (turns : Turns) (questions : Q)
    (moment : Option ℕ) (digits : Option (List ℕ)) (s : LiveSource Q G)
    → Fixes s questions moment digits → told questions ≡ 0
    → ((turn now : ℕ) → tells questions turn now → turns turn now)
    → Begins tells told turns moment digits s
begun_with tells told turns questions moment digits s fixes none so = record {
  moment_is = fixes.1;
  digits_is = fixes.2;
  unasked = subst (λ q. told q ≡ 0) (sym fixes.0) none;
  tells_so = subst (λ q. (turn now : ℕ) → tells q turn now → turns turn now) (sym fixes.0) so;
}

-- a source that begins with questions, and goes on, gave all its pairs at the turns of which they tell
pub given_since : {Q G : Type 0} (tells : Q → Turns) (told : Q → ℕ) (turns : Turns) (moment : Option ℕ)
    (digits : Option (List ℕ)) (old new : LiveSource Q G) → pairs_of old ≡ []
    → Begins tells told turns moment digits old → Continues tells told old new
    → AreGiven turns moment digits (pairs_of new)
given_since tells told turns moment digits old new none begins goes =
    let nothing : AreGiven (tells old.questions) moment digits (pairs_of old) =
    subst (λ (ps : List Pair). AreGiven (tells old.questions) moment digits ps) (sym none) none_given in
    let first : IsFrom tells told old.questions moment digits old = record {
      moment_is = begins.moment_is;
      digits_is = begins.digits_is;
      tells_so = λ turn now it. it;
      given = nothing;
      in_turn = λ free calm.
          let fewest : length (pairs_of old) ≡ 0 = ap (λ (ps : List Pair). length ps) none in
          begins.unasked ∙ sym fewest;
    } in
    let last = goes.goes_on old.questions moment digits first in record {
      each = last.given.each;
      told = λ free. told_by (tells old.questions) turns begins.tells_so 0 (pairs_of new)
          (last.given.told free);
    }
