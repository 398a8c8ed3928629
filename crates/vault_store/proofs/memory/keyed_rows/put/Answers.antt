use Rattle.std.proofs.Common.{◌+◌, cond, is_some, ap, ◌∙◌, btree_map_len}
use Rattle.vault_store.proofs.ShownLemmas.{shows-put}
use Rattle.vault_store.proofs.memory.keyed_rows.put.Goals as goal

pub returns-clause-ok : goal.returns-clause-ok
returns-clause-ok g c F h =
    let done = c.in_ok-insert.ensures in
    shows-put g.met.K.Ord.total c.args.rows.now c.insert.new.self F c.args.key c.args.row done.updates.0
    (done.len ∙ ap (λ x. btree_map_len c.args.rows.now + cond (is_some x) 0 1) done.old) h
