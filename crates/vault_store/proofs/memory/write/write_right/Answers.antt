use Rattle.std.proofs.Common.{sym, ◌∙◌}
use Rattle.std.proofs.lemmas.Result.{on_err_weaker}
use Rattle.vault_store.proofs.AddsLemmas.{adds_right}
use Rattle.vault_store.proofs.memory.write.write_right.Goals as goal

pub returns-in_default-clause-kept : goal.returns-in_default-clause-kept
returns-in_default-clause-kept c =
    on_err_weaker c.put_merchant.result
    (λ kept V h. record { rights_are = h.rights_are; merchants_are = kept V h.merchants_are })
    c.put_merchant.ensures.kept

pub returns-in_err-was-clause-allowed : goal.returns-in_err-was-clause-allowed
returns-in_err-was-clause-allowed c V h adds =
    let x = c.in-Some in
    let given = c.in-Some-given in
    absurd (adds_right V c.args.ch.now (x.caller, x.merchant, x.right, x.given) given.row x.is given.is
    (sym (h.rights_are.at (x.caller, (x.merchant, x.right))) ∙ c.in_err-was.ensures.new) adds)
