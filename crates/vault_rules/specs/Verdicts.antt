-- The first of the rules that isn't kept.
use Rattle.std.specs.Prelude.{◌≡◌, ◌<◌, ℕ, suc, Bool, true, false, List, [], ◌∷◌, slice_index_or}
use Rattle.vault_rules.specs.AllRows.{Rows}
use Rattle.vault_rules.specs.Rules.{Rule, rules}

-- what is told of each of these rules is so, where each before it is kept
pub data AreToldOf (rows : Rows) : List Rule → List Bool → Type 0 where
  AllTold : AreToldOf rows [] []
  Told : {rule : Rule} {rest : List Rule} {is_kept : Bool} {kept : List Bool} → is_kept ≡ rule rows
      → (is_kept ≡ true → AreToldOf rows rest kept) → AreToldOf rows (rule ∷ rest) (is_kept ∷ kept)

-- so of all rules
abbrev pub AreVerdicts : Rows → List Bool → Type 0
AreVerdicts rows kept = AreToldOf rows rules kept

-- the rule of this number isn't kept, and each before it is
pub record IsFirstBroken (kept : List Bool) (rule : ℕ) : Type 0 where
  pub place : ℕ
  pub number : rule ≡ suc place
  pub broken : slice_index_or kept place true ≡ false
  pub before : (other : ℕ) → other < place → slice_index_or kept other true ≡ true
