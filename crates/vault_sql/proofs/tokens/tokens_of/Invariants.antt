use Rattle.std.proofs.Common.{◌≡◌, map, take}
use Rattle.sqlite.specs.Order.{column}
use Rattle.sqlite.specs.declared.types.Value.TheVariants.{Text}
use Rattle.vault_sql.proofs.tokens.tokens_of.Given as goal

-- the tokens so far are those of the rows so far
abbrev pub invariant-loop-row : goal.invariant-loop-row
invariant-loop-row l = map (λ row. column row 0) (take l.row-index l.rows) ≡ map Text l.tokens.items
