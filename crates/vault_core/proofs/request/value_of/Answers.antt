use Rattle.std.proofs.Common.{arith}
use Rattle.vault_core.proofs.Digits.{below_all, value_more}
use Rattle.vault_core.proofs.request.value_of.Goals as goal

pub overflow_mul-number : goal.overflow_mul-number
overflow_mul-number c =
    let i = c.loop-digit.digit-index in
    let inside = c.loop-digit-test.true in
    let small = below_all c.args.digits.now i c.requires.few c.requires.digits inside in
    let more = value_more c.args.digits.now i c.requires.digits inside in
    let is = c.loop-digit.invariant in
    omega (arith, small, more, is)

pub overflow_add-number : goal.overflow_add-number
overflow_add-number c =
    let i = c.loop-digit.digit-index in
    let inside = c.loop-digit-test.true in
    let small = below_all c.args.digits.now i c.requires.few c.requires.digits inside in
    let more = value_more c.args.digits.now i c.requires.digits inside in
    let is = c.loop-digit.invariant in
    omega (arith, small, more, is, c.from.ensures)

pub loop-digit-preserved : goal.loop-digit-preserved
loop-digit-preserved c =
    let i = c.loop-digit.digit-index in
    let inside = c.loop-digit-test.true in
    let more = value_more c.args.digits.now i c.requires.digits inside in
    let is = c.loop-digit.invariant in
    omega (arith, more, is, c.from.ensures)
