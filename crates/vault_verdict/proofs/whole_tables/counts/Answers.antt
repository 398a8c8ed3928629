use Rattle.vault_schema.proofs.TablesBehind.{behind, indexes_behind}
use Rattle.vault_verdict.proofs.whole_tables.counts.Goals as goal

pub returns : goal.returns
returns g c v = c.read_all.ensures (behind v) (indexes_behind v)
