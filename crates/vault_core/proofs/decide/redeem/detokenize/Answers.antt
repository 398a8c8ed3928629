use Rattle.std.proofs.Common.{ap, sym, subst, ◌∙◌}
use Rattle.vault_core.specs.Changes.{Yields}
use Rattle.vault_core.specs.Parts.{token_command}
use Rattle.vault_core.specs.Outcome.{Outcome}
use Rattle.vault_core.specs.Vault.{entitled}
use Rattle.vault_core.specs.declared.right.Right.TheVariants as right
use Rattle.vault_core.proofs.Redeemed.{known_row, moment_known, detokenize-no_right, detokenize-no_token}
use Rattle.vault_core.proofs.Redeemed.{detokenize-entry}
use Rattle.vault_core.proofs.decide.redeem.detokenize.Goals as goal

pub returns-then-not-w-clause-settles : goal.returns-then-not-w-clause-settles
returns-then-not-w-clause-settles c V sound window =
    let a = c.args.asked.now in
    let k = known_row V a.merchant c.in-Some.row (sym window.merchant ∙ c.in-Some.is) in
    let at = ap (entitled V a.caller a.merchant right.Detokenize)
    (sym (moment_known V a.merchant k.0 a.moment k.1)) in
    subst (λ (o : Outcome). Yields V o c.denied.result)
    (sym (detokenize-no_right V (token_command a.caller a.merchant a.token right.Detokenize a.moment) k.0
    k.1 (at ∙ sym window.right ∙ c.if-not-w.true)))
    (c.denied.ensures.yields V k.0 k.1 k.2)

pub returns-in-None-clause-settles : goal.returns-in-None-clause-settles
returns-in-None-clause-settles c V sound window =
    let a = c.args.asked.now in
    let k = known_row V a.merchant c.in-Some.row (sym window.merchant ∙ c.in-Some.is) in
    let at = ap (entitled V a.caller a.merchant right.Detokenize)
    (sym (moment_known V a.merchant k.0 a.moment k.1)) in
    subst (λ (o : Outcome). Yields V o c.denied-in-None.result)
    (sym (detokenize-no_token V (token_command a.caller a.merchant a.token right.Detokenize a.moment) k.0
    k.1 (at ∙ sym window.right ∙ c.if-not-w.false) (sym window.named ∙ c.in-None.is)))
    (c.denied-in-None.ensures.yields V k.0 k.1 k.2)

pub returns-in-Some-named-clause-settles : goal.returns-in-Some-named-clause-settles
returns-in-Some-named-clause-settles c V sound window =
    let a = c.args.asked.now in
    let k = known_row V a.merchant c.in-Some.row (sym window.merchant ∙ c.in-Some.is) in
    let entry = c.in-Some-named.entry in
    let at = ap (entitled V a.caller a.merchant right.Detokenize)
    (sym (moment_known V a.merchant k.0 a.moment k.1)) in
    subst (λ (o : Outcome). Yields V o c.redeemed.result)
    (sym (detokenize-entry V (token_command a.caller a.merchant a.token right.Detokenize a.moment) k.0 k.1
    (at ∙ sym window.right ∙ c.if-not-w.false) entry (sym window.named ∙ c.in-Some-named.is)))
    (c.redeemed.ensures.yields V k.0 k.1 k.2)
