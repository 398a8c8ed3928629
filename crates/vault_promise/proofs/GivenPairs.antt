-- Pairs that a source gave: the first of them, and those of a clock that may tell more.
use Rattle.std.proofs.Common.{◌+◌, ℕ, List, [], ◌∷◌, ◌++◌, Option}
use Rattle.std.proofs.lemmas.List.Elements.{All-nil}
use Rattle.vault_engine.specs.Asking.{Pair}
use Rattle.vault_listen.specs.Live.{AreGiven, AreTold, IsPairOf, Turns}
use Rattle.vault_promise.proofs.Proper.{all_first}

-- no pair at all
pub none_given : (tells : Turns) (now : Option ℕ) (digits : Option (List ℕ)) → AreGiven tells now digits []
none_given tells now digits = record { each = All-nil (IsPairOf now digits); told = λ free. tt }

told_first : (tells : Turns) (turn : ℕ) (ps qs : List Pair) → AreTold tells turn (ps ++ qs)
    → AreTold tells turn ps
told_first tells turn [] qs told = tt
told_first tells turn (p ∷ ps) qs told = (told.0, told_first tells (turn + 1) ps qs told.1)

-- the first of those that were given were
pub given_first : (tells : Turns) (now : Option ℕ) (digits : Option (List ℕ)) (ps qs : List Pair)
    → AreGiven tells now digits (ps ++ qs) → AreGiven tells now digits ps
given_first tells now digits ps qs given = record {
  each = all_first (IsPairOf now digits) ps qs given.each;
  told = λ free. told_first tells 0 ps qs (given.told free);
}

module _ (tells more : Turns) (so : (turn now : ℕ) → tells turn now → more turn now) where
  told_more : (turn : ℕ) (ps : List Pair) → AreTold tells turn ps → AreTold more turn ps
  told_more turn [] told = tt
  told_more turn (p ∷ ps) told = (so turn p.0 told.0, told_more (turn + 1) ps told.1)

  -- what a clock gave, one that may tell more gives
  pub given_more : (now : Option ℕ) (digits : Option (List ℕ)) (ps : List Pair) → AreGiven tells now digits ps
      → AreGiven more now digits ps
  given_more now digits ps given = record {
    each = given.each;
    told = λ free. told_more 0 ps (given.told free);
  }
