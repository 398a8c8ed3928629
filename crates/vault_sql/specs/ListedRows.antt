-- All rows of a table.
use Rattle.std.specs.Prelude.{◌≡◌, ℤ, pos, List, ◌∷◌, Option, Some}
use Rattle.sqlite.specs.Order.{Row, column}
use Rattle.sqlite.specs.declared.types.Value.TheVariants.{Int, Text}
use Rattle.sqlite_rules.specs.Lists.{Has}
use Rattle.vault_core.specs.Keys.{Bytes}
use Rattle.vault_core.specs.Numbers.{right_number}
use Rattle.vault_core.specs.declared.right.Right.{Right}
use Rattle.vault_core.specs.declared.row.GrantRow.{GrantRow}
use Rattle.vault_schema.specs.Values.{number_or_null}

-- a row for each pair, behind its rowid, and no other rows
pub record ShowsAll {K X : Type 0} (encode : K → X → Row) (rows : List Row) (held : K → Option X) : Type 0
  where
    pub sound : (r : Row) → Has rows r
        → (n : ℤ) × (k : K) × (x : X) × (r ≡ Int n ∷ encode k x) × (held k ≡ Some x)
    pub complete : (k : K) (x : X) → held k ≡ Some x → (n : ℤ) × Has rows (Int n ∷ encode k x)

-- behind its rowid a row has the columns of a right
pub record ShowsRight (row : Row) (key : Bytes × (Bytes × Right)) (g : GrantRow) : Type 0 where
  pub caller : column row 1 ≡ Text key.0
  pub merchant : column row 2 ≡ Text key.1.0
  pub what : column row 3 ≡ Int (pos (right_number key.1.1))
  pub ends : column row 4 ≡ number_or_null g.ends
