use Rattle.std.proofs.Common.{◌≡◌, ◌-◌, length, arith, sym, subst, ◌∙◌, ◌≤◌, List, ℕ}
use Rattle.std.proofs.lemmas.Grind.{common_steps}
use Rattle.vault_pan.specs.Mask.{IsMasked, front_of, hidden, least_hidden}
use Rattle.vault_pan.proofs.MaskLemmas.{hidden_between, mask_of-parts, mask_of-hides, mask_of-IsMasked}
use Rattle.vault_pan.proofs.mask.mask.Goals as goal

pub returns-clause-masked : goal.returns-clause-masked
returns-clause-masked c =
    let number = c.args.p.now in
    let parts : c.extend-2.new.self
    ≡ hidden_between number (front_of c.args.lead (length number)) (length number - 4) =
    grind (arith, common_steps) in
    parts ∙ mask_of-parts c.args.lead number (omega arith)

pub invariant_of-result : goal.invariant_of-result
invariant_of-result c =
    subst IsMasked (sym (returns-clause-masked c))
    (mask_of-IsMasked c.args.lead c.args.p.now c.digits-digits.ensures.pan.0)

pub returns-clause-hides : goal.returns-clause-hides
returns-clause-hides c =
    subst (λ (text : List ℕ). least_hidden c.args.lead ≤ hidden text) (sym (returns-clause-masked c))
    (mask_of-hides c.args.lead c.args.p.now c.digits-digits.ensures.pan.0)
