-- Numbers that rise.
use Rattle.std.specs.Prelude.{◌≡◌, ℤ, ◌&&◌, Bool, true, List, [], ◌∷◌, Option, Some, None}
use Rattle.std.specs.Int.RustNames.{int_lt}
use Rattle.vault_rules.specs.declared.rising.Rising.{Rising}

-- each is above the one before it
abbrev pub are_rising : List ℤ → Bool
are_rising [] = true
are_rising (first ∷ []) = true
are_rising (first ∷ next ∷ rest) = int_lt first next && are_rising (next ∷ rest)

-- the last of them
abbrev pub last_of : List ℤ → Option ℤ
last_of [] = None
last_of (first ∷ []) = Some first
last_of (first ∷ next ∷ rest) = last_of (next ∷ rest)

-- what is known of numbers that came one after the other
pub record IsRisingOver (it : Rising) (numbers : List ℤ) : Type 0 where
  pub last : it.last ≡ last_of numbers
  pub rises : it.rises ≡ are_rising numbers
