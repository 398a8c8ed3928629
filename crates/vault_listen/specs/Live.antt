-- What a live source gave.
use Rattle.std.specs.Prelude.{◌≡◌, ◌+◌, ℕ, List, [], ◌∷◌, All, Option, Some, None, false, length}
use Rattle.vault_core.specs.Scalar.{IsMoment}
use Rattle.vault_listen.specs.declared.live.LiveSource.{LiveSource}
use Rattle.vault_pan.specs.Draw.{IsDrawing}

-- a moment, and drawn digits
abbrev pub Pair : Type 0
Pair = ℕ × List ℕ

-- which moments are told at which turn
abbrev pub Turns : Type 1
Turns = ℕ → ℕ → Type 0

-- the pair has this moment and these digits, where they are fixed; it is a moment and a drawing
pub record IsPairOf (moment : Option ℕ) (digits : Option (List ℕ)) (pair : Pair) : Type 0 where
  pub moment_is : (now : ℕ) → moment ≡ Some now → pair.0 ≡ now
  pub digits_are : (drawn : List ℕ) → digits ≡ Some drawn → pair.1 ≡ drawn
  pub is_moment : IsMoment pair.0
  pub is_drawing : IsDrawing pair.1

-- the moment of each pair was told at a turn of its own, of which this is the first one's
abbrev pub AreTold : Turns → ℕ → List Pair → Type 0
AreTold tells turn [] = Unit {0}
AreTold tells turn (pair ∷ pairs) = tells turn pair.0 × AreTold tells (turn + 1) pairs

-- Pairs of a source that has this moment and these digits, where they are fixed. Where no moment is, that of
-- each pair was told for it alone.
pub record AreGiven (tells : Turns) (moment : Option ℕ) (digits : Option (List ℕ)) (pairs : List Pair)
    : Type 0 where
  pub each : All (IsPairOf moment digits) pairs
  pub told : moment ≡ None → AreTold tells 0 pairs

-- the pairs that it gave, in order
abbrev pub pairs_of : {Q G : Type 0} → LiveSource Q G → List Pair
pairs_of s = s.given.items

-- it gave nothing yet, gives this many pairs, and never refused
pub record IsFresh {Q G : Type 0} (s : LiveSource Q G) (times : ℕ) : Type 0 where
  pub gave : pairs_of s ≡ []
  pub left_is : s.left ≡ times
  pub calm : s.refused ≡ false

-- its questions, and the moment and the digits of its pairs, where they are fixed
abbrev pub Fixes : {Q G : Type 0} → LiveSource Q G → Q → Option ℕ → Option (List ℕ) → Type 0
Fixes s questions moment digits = (s.questions ≡ questions) × (s.moment ≡ moment) × (s.digits ≡ digits)

-- A source that began with these questions, and with this moment and these digits, where they are fixed: all
-- its pairs were given so. Where no moment is fixed, it asked once for each pair that it gave, and no more,
-- so for each once its message was read. That holds until it refuses.
pub record IsFrom {Q G : Type 0} (tells : Q → Turns) (told : Q → ℕ) (began : Q) (moment : Option ℕ)
    (digits : Option (List ℕ)) (s : LiveSource Q G) : Type 0 where
  pub moment_is : s.moment ≡ moment
  pub digits_is : s.digits ≡ digits
  pub tells_so : (turn now : ℕ) → tells s.questions turn now → tells began turn now
  pub given : AreGiven (tells began) moment digits (pairs_of s)
  pub in_turn : moment ≡ None → s.refused ≡ false → told s.questions ≡ length (pairs_of s)

-- The one source is the other one, some calls before: whatever it began with, all its pairs were given so
-- later too; and each pair that was given is one fewer to give.
pub record Continues {Q G : Type 0} (tells : Q → Turns) (told : Q → ℕ) (old new : LiveSource Q G)
    : Type 0 where
  pub goes_on : (began : Q) → (moment : Option ℕ) → (digits : Option (List ℕ))
      → IsFrom tells told began moment digits old → IsFrom tells told began moment digits new
  pub counted : length (pairs_of new) + new.left ≡ length (pairs_of old) + old.left

-- A source that begins with questions none of which was asked, and that tell what these turns do; and with
-- this moment and these digits, where they are fixed.
pub record Begins {Q G : Type 0} (tells : Q → Turns) (told : Q → ℕ) (turns : Turns) (moment : Option ℕ)
    (digits : Option (List ℕ)) (s : LiveSource Q G) : Type 0 where
  pub moment_is : s.moment ≡ moment
  pub digits_is : s.digits ≡ digits
  pub unasked : told s.questions ≡ 0
  pub tells_so : (turn now : ℕ) → tells s.questions turn now → turns turn now
