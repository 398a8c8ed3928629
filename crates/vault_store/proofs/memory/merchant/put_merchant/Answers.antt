use Rattle.std.proofs.Common.{◌+◌, ap, sym, ◌∙◌, cond, is_some, subst, Some, btree_map_len}
use Rattle.std.specs.BTreeMap.{get}
use Rattle.std.specs.Ordering.{eq_by_cmp}
use Rattle.vault_core.specs.Keys.{bytes_cmp}
use Rattle.vault_store.specs.ShownMerchants.{HasRoom, row_with, row_raised}
use Rattle.vault_store.proofs.AddsLemmas.{adds_merchant}
use Rattle.vault_store.proofs.MerchantLemmas.{shows-unchanged, shows-put_merchant, has_room, unknown}
use Rattle.vault_store.proofs.memory.merchant.put_merchant.Goals as goal

pub returns-in_default-clause-done : goal.returns-in_default-clause-done
returns-in_default-clause-done c V h sound fit =
    shows-unchanged c.args.merchants.now V c.args.ch.now c.in_default.is fit h

pub returns-in_err-insert-clause-allowed : goal.returns-in_err-insert-clause-allowed
returns-in_err-insert-clause-allowed c V h adds =
    let m = c.in-Some.m in
    absurd (adds_merchant V c.args.ch.now m c.in-Some.lives c.in-Some.is
    (unknown V m (sym (h.at m) ∙ c.in_err-insert.ensures.absent)) adds)

pub returns-clause-done : goal.returns-clause-done
returns-clause-done c V h sound fit =
    let m = c.in-Some.m in
    let x = c.in-Some.lives in
    let count = c.args.ch.now.count in
    let done = c.in_ok-insert.ensures in
    let was = c.copied-was.ensures ∙ c.get.ensures.value ∙ h.at m in
    let with = c.row_with.ensures ∙ ap (row_with x) was in
    let row =
    c.raised-row.ensures (subst HasRoom (sym with) (has_room V sound x m))
    ∙ ap (row_raised count) with in
    shows-put_merchant V sound c.args.ch.now fit m x c.in-Some.is c.args.merchants.now c.insert.new.self
    (λ q. done.updates.0 q
    ∙ ap (λ r. cond (eq_by_cmp bytes_cmp m q) (Some r) (get bytes_cmp c.args.merchants.now q)) row)
    (done.len ∙ ap (λ o. btree_map_len c.args.merchants.now + cond (is_some o) 0 1) done.old) h
