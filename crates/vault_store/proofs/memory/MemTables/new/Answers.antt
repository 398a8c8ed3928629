use Rattle.vault_core.specs.Keys.{record_cmp, right_cmp}
use Rattle.vault_store.proofs.EmptyLemmas.{shows-empty, shows_merchants-empty}
use Rattle.vault_store.proofs.memory.MemTables.new.Goals as goal

pub returns : goal.returns
returns c = record {
  merchants = shows_merchants-empty c.new.result c.new.ensures.empty;
  entries = c.new-2.ensures.held;
  records = shows-empty record_cmp c.new-3.result c.new-3.ensures.empty;
  rights = shows-empty right_cmp c.new-4.result c.new-4.ensures.empty;
}
