use Rattle.std.proofs.Common.{inr, arith}
use Rattle.std.proofs.lemmas.Result.{err_from_is_err_and}
use Rattle.vault_rights.proofs.Words.{first-item-fault, grants-whole}
use Rattle.vault_rights.proofs.items.read_grants.Goals as goal

pub returns-in_err-read_grant-clause-fault : goal.returns-in_err-read_grant-clause-fault
returns-in_err-read_grant-clause-fault c =
    let p = err_from_is_err_and c.from_residual.result c.from_residual.ensures.1 in
    rw (p.1, p.2)
    (inr
    (first-item-fault c.args.items.now.items c.deref-item-items.result.now c.loop-item.item-index
    c.item-item.result
    c.loop-item.grants.items _ c.deref-item-items.ensures.value c.loop-item-test.true c.item-item.is
    c.loop-item.invariant.read c.loop-item.invariant.moments c.in_err-read_grant.ensures.fault))

pub returns-clause-proper : goal.returns-clause-proper
returns-clause-proper c =
    let past = c.loop-item-test.false in
    let size = c.deref-item-items.ensures.len in
    grants-whole c.args.items.now.items c.deref-item-items.result.now c.loop-item.item-index
    c.loop-item.grants.items
    c.deref-item-items.ensures.value (omega arith) c.loop-item.invariant.read c.loop-item.invariant.moments
