use Rattle.std.proofs.Common.{◌+◌, None, cond, is_some, ap, sym, ◌∙◌, btree_map_len}
use Rattle.vault_core.proofs.Maps.{right_total}
use Rattle.vault_store.proofs.RightOrder.{get-derived, updates-derived}
use Rattle.vault_store.proofs.ShownLemmas.{shows-taken}
use Rattle.vault_store.proofs.memory.rights.take_away.Goals as goal

pub returns : goal.returns
returns g c F =
    let rights = c.args.rights.now in
    let key = c.args.key.now in
    shows-taken right_total rights c.remove.new.self F key
    (updates-derived rights c.remove.new.self key None c.remove.ensures.updates.0)
    (ap (λ x. btree_map_len c.remove.new.self + cond (is_some x) 1 0)
    (sym (c.remove.ensures.value ∙ get-derived rights key))
    ∙ c.remove.ensures.len)
