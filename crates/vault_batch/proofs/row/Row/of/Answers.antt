use Rattle.std.proofs.Common.{sym, ◌∙◌}
use Rattle.vault_batch.proofs.Fields.{if_none, no_first, no_second, no_third, three_fields}
use Rattle.vault_batch.proofs.row.Row.of.Goals as goal

pub returns-in_err-get-clause-none : goal.returns-in_err-get-clause-none
returns-in_err-get-clause-none c =
    if_none c.from_residual.result _ (λ three. no_first _ three (sym c.in_err-get.ensures.value))

pub returns-in_err-get-2-clause-none : goal.returns-in_err-get-2-clause-none
returns-in_err-get-2-clause-none c =
    if_none c.from_residual-in_err-get-2.result _
    (λ three. no_second _ three (sym c.in_err-get-2.ensures.value))

pub returns-in_err-get-3-clause-none : goal.returns-in_err-get-3-clause-none
returns-in_err-get-3-clause-none c =
    if_none c.from_residual-in_err-get-3.result _
    (λ three. no_third _ three (sym c.in_err-get-3.ensures.value))

pub returns-clause-some : goal.returns-clause-some
returns-clause-some c =
    three_fields _ c.in_ok-get.field-0.now c.in_ok-get-2.field-0.now c.in_ok-get-3.field-0.now
    (sym c.len.ensures ∙ c.if-len-ne3.false) (sym c.in_ok-get.ensures.value)
    (sym c.in_ok-get-2.ensures.value) (sym c.in_ok-get-3.ensures.value)
