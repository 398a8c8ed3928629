-- What a source gave.
use Rattle.std.specs.Prelude.{◌≡◌, ℕ, List, Result, Ok, Err, replicate, false}
use Rattle.vault_core.specs.declared.source.FixedSource.{FixedSource}
use Rattle.vault_core.specs.declared.source.SourceFault.{SourceFault}

-- the one pair, as often as it was given
abbrev pub pairs_of : FixedSource → List (ℕ × List ℕ)
pairs_of s = replicate s.given (s.now, s.digits)

-- it gave this pair so often, has it still so often to give, and never refused
pub record GivesStill (s : FixedSource) (times more : ℕ) (moment : ℕ) (drawn : List ℕ) : Type 0 where
  pub gave : pairs_of s ≡ replicate times (moment, drawn)
  pub left_is : s.left ≡ more
  pub fresh : s.refused ≡ false
  pub moment_is : s.now ≡ moment
  pub drawn_is : s.digits ≡ drawn

-- the pair that it gives stays the same
abbrev pub SamePair : FixedSource → FixedSource → Type 0
SamePair old new = (new.now ≡ old.now) × (new.digits ≡ old.digits)

-- it gives its own pair, and refuses only where it has given all
abbrev pub GivesItsOwn : FixedSource → FixedSource → Result (ℕ × List ℕ) SourceFault → Type 0
GivesItsOwn old new (Ok pair) = (pair ≡ (old.now, old.digits)) × SamePair old new
GivesItsOwn old new (Err fault) = (old.left ≡ 0) × (new.left ≡ 0) × SamePair old new
