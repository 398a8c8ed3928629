use Rattle.std.proofs.Common.{◌∙◌, sym}
use Rattle.vault_jobs.proofs.RightsHeld.{found_at, passed_at, same_right}
use Rattle.vault_jobs.proofs.changed.is_among.Goals as goal

pub returns-then-is_eq : goal.returns-then-is_eq
returns-then-is_eq c =
    found_at c.args.held.now c.args.right c.loop-it.it-index c.it-item.result c.loop-it-test.true
    c.it-item.is c.loop-it.invariant
    (sym (same_right c.args.right c.it-item.result.0 c.cmp.result c.is_eq.result c.cmp.ensures
    c.is_eq.ensures) ∙ c.if-is_eq.true)

pub loop-it-preserved : goal.loop-it-preserved
loop-it-preserved c =
    passed_at c.args.held.now c.args.right c.loop-it.it-index c.it-item.result c.loop-it-test.true
    c.it-item.is c.loop-it.invariant
    (sym (same_right c.args.right c.it-item.result.0 c.cmp.result c.is_eq.result c.cmp.ensures
    c.is_eq.ensures) ∙ c.if-is_eq.false)
