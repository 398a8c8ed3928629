use Rattle.std.proofs.Common.{codes, sym, ◌∙◌, refl, subst}
use Rattle.clap.specs.Words.{found_of, rows_of}
use Rattle.clap.proofs.WalkLemmas.{first_value-rows}
use Rattle.vault_words.proofs.Readings.{has_text, no_digits}
use Rattle.vault_words.specs.Digits.{IsDigitText}
use Rattle.vault_words.specs.WordValues.{HasText}
use Rattle.vault_words.proofs.values.digits.Goals as goal

pub returns-in_default : goal.returns-in_default
returns-in_default c =
    sym (c.in_default.ensures ∙ first_value-rows (found_of c.args.matches.now) (codes "digits"))

pub returns-in-None : goal.returns-in-None
returns-in-None c =
    let f = found_of c.args.matches.now in
    let text = c.in-Some.text.now in
    let has = has_text f (codes "digits") text c.in-Some.ensures in
    no_digits (rows_of f) text has
    (λ is. absurd (cc (c.in-None.ensures.some.1 (subst IsDigitText (sym c.as_bytes.ensures.value) is))))

pub returns-in-Some-drawn : goal.returns-in-Some-drawn
returns-in-Some-drawn c =
    let f = found_of c.args.matches.now in
    let bytes = c.as_bytes.result.now in
    let has = has_text f (codes "digits") c.in-Some.text.now c.in-Some.ensures in
    let given : HasText (rows_of f) (codes "digits") bytes = rw c.as_bytes.ensures.value has in
    (bytes, given, c.in-Some-drawn.ensures.some.0 refl, c.in-Some-drawn.ensures.value)
