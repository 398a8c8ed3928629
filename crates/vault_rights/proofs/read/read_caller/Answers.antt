use Rattle.std.proofs.Common.{◌∙◌, IsOk, refl}
use Rattle.vault_rights.proofs.Words.{proper-caller, caller-rows}
use Rattle.vault_rights.proofs.read.read_caller.Goals as goal

pub returns-clause-proper : goal.returns-clause-proper
returns-clause-proper c =
    let ok : IsOk c.read.result = rw c.in-Ok.is refl in
    proper-caller c.args.key.now c.as_bytes.result.now _ _ c.as_bytes.ensures.value (c.read.ensures.name.0 ok)
    c.in-Some.ensures c.in_ok-read_merchants.ensures.proper

pub returns-clause-rows : goal.returns-clause-rows
returns-clause-rows c =
    caller-rows c.in-Ok.caller c.args.key.now _ _ c.args.rows.now.items c.read_merchants.new.rows.items
    (c.in-Ok.ensures.value ∙ c.as_bytes.ensures.value) c.in-Some.ensures
    c.in_ok-read_merchants.ensures.rows
