use Rattle.std.proofs.Common.{take}
use Rattle.vault_core.specs.Keys.{right_cmp}
use Rattle.vault_sql.specs.ListedRows.{ShowsRight}
use Rattle.vault_sql.specs.Gathered.{Gathers}
use Rattle.vault_sql.proofs.rights.gathered_rights.Given as goal

-- what is gathered is what the rows so far show
abbrev pub invariant-loop-row : goal.invariant-loop-row
invariant-loop-row l = Gathers right_cmp ShowsRight (take l.row-index l.rows) l.found
