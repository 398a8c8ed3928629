use Rattle.toml.specs.View.{table_view}
use Rattle.vault_rights.proofs.Lists.{list-whole}
use Rattle.vault_rights.proofs.read.read_rights.Goals as goal

pub returns-clause-rights : goal.returns-clause-rights
returns-clause-rights c = (
  table_view c.in_ok-document.document,
  c.in_ok-document.ensures.document,
  c.in_ok-read_callers.ensures.proper,
  list-whole _ _ _ c.new-rows.ensures.items c.in_ok-read_callers.ensures.rows,
)
