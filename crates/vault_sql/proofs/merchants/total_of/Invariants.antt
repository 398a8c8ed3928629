use Rattle.std.proofs.Common.{◌≡◌, pos, take}
use Rattle.std.specs.List.{AllByRecursion}
use Rattle.sqlite.specs.Order.{column}
use Rattle.sqlite.specs.declared.types.Value.TheVariants.{Int}
use Rattle.vault_sql.proofs.merchants.total_of.Given as goal

-- no row so far is of the kind
abbrev pub invariant-loop-row : goal.invariant-loop-row
invariant-loop-row l = AllByRecursion (λ r. column r 0 ≡ Int (pos l.number) → ⊥) (take l.row-index l.rows)
