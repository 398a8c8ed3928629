use Rattle.std.proofs.Common.{◌≢◌, ◌<◌, All, length, get_or, arith, refl}
use Rattle.std.proofs.lemmas.Grind.{common_steps}
use Rattle.std.specs.Char.{IsAsciiDigit}
use Rattle.vault_core.proofs.Digits.{value_positive}
use Rattle.vault_core.proofs.request.RequestNo.read.Goals as goal

pub invariant_of-result : goal.invariant_of-result
invariant_of-result c =
    let digits : All IsAsciiDigit c.args.text.now = c.are_digits.ensures.0 c.if-not-are_digits.false in
    let first : get_or c.args.text.now 0 0 ≢ 48 = c.if-text-eq48.false in
    let some : 0 < length c.args.text.now = grind (arith, common_steps, c.is_empty.ensures) in
    let least = value_positive c.args.text.now digits some first in
    let is = c.value_of-number.ensures in
    let most = c.if-number-gt-LAST_REQUEST.false in
    (omega (arith, least, is), omega (arith, most))

pub returns-clause-request : goal.returns-clause-request
returns-clause-request c =
    let digits : All IsAsciiDigit c.args.text.now = c.are_digits.ensures.0 c.if-not-are_digits.false in
    let first : get_or c.args.text.now 0 0 ≢ 48 = c.if-text-eq48.false in
    let some : 0 < length c.args.text.now = grind (arith, common_steps, c.is_empty.ensures) in
    let least = value_positive c.args.text.now digits some first in
    let is = c.value_of-number.ensures in
    let most = c.if-number-gt-LAST_REQUEST.false in
    let few = c.if-text-gt19.false in (
      λ _. (omega (arith, some), omega (arith, few), digits, first, (least, omega (arith, is, most))),
      λ _. refl,
    )
