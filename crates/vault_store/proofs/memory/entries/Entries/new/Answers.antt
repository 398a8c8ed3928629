use Rattle.vault_core.specs.Keys.{entry_cmp}
use Rattle.vault_store.proofs.EmptyLemmas.{shows-empty}
use Rattle.vault_store.proofs.IndexLemmas.{indexes-empty}
use Rattle.vault_store.proofs.memory.entries.Entries.new.Goals as goal

pub returns-clause-held : goal.returns-clause-held
returns-clause-held c = record {
  rows = shows-empty entry_cmp c.new.result c.new.ensures.empty;
  index = indexes-empty c.new-2.result c.new-2.ensures.empty;
}
