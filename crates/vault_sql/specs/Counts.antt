-- The counts of a merchant that a vault shows.
use Rattle.std.specs.Prelude.{◌≡◌, ◌⊎◌, ℕ, pos, List, [], ◌∷◌, Some}
use Rattle.sqlite.specs.Order.{Row, column}
use Rattle.sqlite.specs.declared.types.Value.TheVariants.{Int}
use Rattle.sqlite_rules.specs.Lists.{Has}
use Rattle.vault_core.specs.Keys.{Bytes}
use Rattle.vault_core.specs.Vault.{Vault}
use Rattle.vault_schema.specs.Stands.{count_at, unless_zero}

-- a count, behind its merchant
abbrev pub count_columns : ℕ → ℕ → Row
count_columns kind total = Int (pos kind) ∷ Int (pos total) ∷ []

-- rows are the counts of a merchant that are not 0, each with its kind
pub record ShowsCounts (rows : List Row) (V : Vault) (m : Bytes) : Type 0 where
  pub sound : (r : Row) → Has rows r → (kind : ℕ) × (total : ℕ) × (r ≡ count_columns kind total)
      × (unless_zero (count_at V m kind) ≡ Some total)
  pub complete : (kind total : ℕ) → unless_zero (count_at V m kind) ≡ Some total
      → Has rows (count_columns kind total)

-- a row of this kind has the total, or the total is 0 and no row is of this kind
abbrev pub IsTotalOf : ℕ → List Row → ℕ → Type 0
IsTotalOf kind rows total =
    ((r : Row) × Has rows r × (column r 0 ≡ Int (pos kind)) × (column r 1 ≡ Int (pos total)))
    ⊎ ((total ≡ 0) × ((r : Row) → Has rows r → column r 0 ≡ Int (pos kind) → ⊥))
