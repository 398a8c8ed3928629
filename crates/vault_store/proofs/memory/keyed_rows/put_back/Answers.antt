use Rattle.std.proofs.Common.{◌+◌, cond, is_some, ap, ◌∙◌, sym, btree_map_len}
use Rattle.vault_core.proofs.Maps.{get-insert_same}
use Rattle.vault_store.proofs.ShownLemmas.{shows-removed, shows-restored, not_refused, len_not_refused}
use Rattle.vault_store.proofs.memory.keyed_rows.put_back.Goals as goal

pub returns-in-None : goal.returns-in-None
returns-in-None g c exact F row was h =
    shows-removed g.met.K.Ord.total exact c.args.rows.now c.remove.new.self F c.args.key row
    c.remove.ensures.updates.0
    (ap (λ x. btree_map_len c.remove.new.self + cond (is_some x) 1 0) (sym c.remove.ensures.value)
    ∙ c.remove.ensures.len)
    (sym was ∙ c.in-None.is) h

pub returns-in-Some : goal.returns-in-Some
returns-in-Some g c exact F row was h =
    let done = c.insert.ensures in
    let there = ap is_some (h.at c.args.key ∙ get-insert_same g.met.K.Ord.total exact F c.args.key row) in
    shows-restored g.met.K.Ord.total exact c.args.rows.now c.insert.new.self F c.args.key row c.in-Some.row
    (not_refused c.insert.result _ _ done.absent there done.updates).0
    (len_not_refused c.insert.result _ _ _ done.absent there done.old done.len)
    (sym was ∙ c.in-Some.is) h
