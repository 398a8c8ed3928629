use Rattle.std.proofs.Common.{arith}
use Rattle.vault_rules.proofs.PackedLemmas.{behind_small}
use Rattle.vault_rules.proofs.packed.packed.Goals as goal

pub overflow_mul-number : goal.overflow_mul-number
overflow_mul-number c =
    let low = behind_small c.args.digits.now c.loop-left.left c.requires in
    let is = c.loop-left.invariant.number in
    omega (arith, low, is)

pub overflow_add-number : goal.overflow_add-number
overflow_add-number c =
    let low = behind_small c.args.digits.now c.loop-left.left c.requires in
    let is = c.loop-left.invariant.number in
    omega (arith, low, is)
