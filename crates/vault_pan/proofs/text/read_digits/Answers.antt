use Rattle.std.proofs.Common.{◌≡◌, ◌+◌, ℕ, length, take, arith, inl, inr, ap, sym, ◌∙◌, ◌++◌, ◌∷◌, []}
use Rattle.std.proofs.Common.{rules, slice_index, subst, All, length-append}
use Rattle.std.specs.Char.{IsAsciiDigit}
use Rattle.std.proofs.lemmas.Grind.{common_steps}
use Rattle.vault_pan.specs.CardText.{digits_of, HasDigit, Separates}
use Rattle.vault_pan.proofs.TextLemmas.{digits_of-more, digits_of-more_none, length-digits_of-take}
use Rattle.vault_pan.proofs.TextLemmas.{digits_of-are_digits, each-more}
use Rattle.vault_pan.proofs.text.read_digits.Goals.{then-has_digit+else-len-eq-MOST_DIGITS}
use Rattle.vault_pan.proofs.text.read_digits.Goals.{else-has_digit+else-not-separates}
use Rattle.vault_pan.proofs.text.read_digits.Goals as goal

pub returns-then-len-eq-MOST_DIGITS : goal.returns-then-len-eq-MOST_DIGITS
returns-then-len-eq-MOST_DIGITS c fits =
    let digit : HasDigit c.args.text.now c.loop-i.i = search rules in
    let more = ap length (digits_of-more c.args.text.now c.loop-i.i digit) in
    let read = ap length c.loop-i.invariant.read in
    let most = fits.1 in
    omega (arith, more, read, length-digits_of-take c.args.text.now (c.loop-i.i + 1), length-append {A = ℕ})

pub loop-i-preserved : goal.loop-i-preserved
loop-i-preserved c =
    elim c.if-has_digit.branch [
      | then-has_digit+else-len-eq-MOST_DIGITS w ↦
          let digit : HasDigit c.args.text.now c.loop-i.i = search rules in
          record {
            read =
                w.digits-is ∙ w.push.ensures
                ∙ ap (λ ds. ds ++ slice_index c.args.text.now c.loop-i.i ∷ []) c.loop-i.invariant.read
                ∙ sym (digits_of-more _ _ digit);
            few =
                let grown = ap length (w.digits-is ∙ w.push.ensures) in
                let before = c.loop-i.invariant.few in
                omega (arith, grown, length-append {A = ℕ});
            each = each-more _ _ c.loop-i.invariant.each (inl digit);
          }
      | else-has_digit+else-not-separates w ↦
          let between : Separates c.args.text.now c.loop-i.i = search rules in
          record {
            read =
                w.digits-is ∙ c.loop-i.invariant.read
                ∙ sym (digits_of-more_none _ _ c.loop-i-test.true between);
            few =
                let same = ap length w.digits-is in
                let before = c.loop-i.invariant.few in
                omega (arith, same);
            each = each-more _ _ c.loop-i.invariant.each (inr between);
          }
    ]

pub returns : goal.returns
returns c =
    let whole : take c.loop-i.i c.args.text.now ≡ c.args.text.now = grind (arith, common_steps) in
    let same = c.loop-i.invariant.read ∙ ap digits_of whole in (
      (grind (arith, common_steps), λ k inside. c.loop-i.invariant.each k (omega arith)),
      same,
      subst (All IsAsciiDigit) (sym same) (digits_of-are_digits c.args.text.now),
    )
