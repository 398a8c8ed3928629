use Rattle.std.proofs.Common.{sym, ◌∙◌}
use Rattle.vault_core.specs.Keys.{Bytes}
use Rattle.vault_store.proofs.IndexLemmas.{indexes-put_key, indexes-put_none}
use Rattle.vault_store.proofs.memory.index.put_in.Goals as goal

pub returns-in_default-clause-ok : goal.returns-in_default-clause-ok
returns-in_default-clause-ok c F =
    let at : Bytes × Bytes = (c.args.merchant, c.args.token) in
    indexes-put_none c.args.index.now F at c.args.entry (sym c.number_key.ensures ∙ c.in_default.is)

pub returns-clause-ok : goal.returns-clause-ok
returns-clause-ok c F =
    let at : Bytes × Bytes = (c.args.merchant, c.args.token) in
    let updates = c.in_ok-insert.ensures.updates in
    let is = sym c.number_key.ensures ∙ c.in-Some.is in
    indexes-put_key c.args.index.now c.insert.new.self F at c.args.entry c.in-Some.number is
    (record { there = updates.1; others = updates.2 })
