use Rattle.std.proofs.Common.{take}
use Rattle.vault_core.specs.Keys.{bytes_cmp}
use Rattle.vault_sql.specs.Gathered.{Gathers, ShowsName}
use Rattle.vault_sql.proofs.name_lists.gathered_names.Given as goal

-- what is gathered is what the rows so far show
abbrev pub invariant-loop-row : goal.invariant-loop-row
invariant-loop-row l = Gathers bytes_cmp ShowsName (take l.row-index l.rows) l.found
