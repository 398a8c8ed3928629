use Rattle.std.proofs.Common.{◌∙◌, IsOk, refl}
use Rattle.vault_rights.proofs.Words.{proper-merchant, merchant-rows}
use Rattle.vault_rights.proofs.read.read_merchant.Goals as goal

pub returns-clause-proper : goal.returns-clause-proper
returns-clause-proper c =
    let ok : IsOk c.read.result = rw c.in-Ok.is refl in
    proper-merchant c.args.key.now c.as_bytes.result.now _ _ c.as_bytes.ensures.value
    (c.read.ensures.name.0 ok) c.in-Some.ensures c.in_ok-grants.ensures.proper

pub returns-clause-rows : goal.returns-clause-rows
returns-clause-rows c =
    merchant-rows c.args.caller c.in-Ok.merchant c.args.key.now _ _ c.in_ok-grants.grants.items
    c.deref.result.now
    c.args.rows.now.items c.push_rows.new.rows.items
    (c.in-Ok.ensures.value ∙ c.as_bytes.ensures.value)
    c.in-Some.ensures c.in_ok-grants.ensures.grants c.deref.ensures.value c.in_ok-push_rows.ensures.rows
