use Rattle.std.proofs.Common.{◌≡◌, ◌-◌, ◌%◌, get_or, length, arith, ◌∙◌}
use Rattle.std.proofs.lemmas.List.FromFn.{fill_by_all}
use Rattle.std.proofs.lemmas.Option.{IfSome_then}
use Rattle.vault_words.specs.Digits.{repeated}
use Rattle.vault_words.proofs.digits.drawn.Goals as goal

pub returns-clause-value : goal.returns-clause-value
returns-clause-value c =
    let text = c.args.text.now in
    let values = c.loop-i.value-items in
    let full : values ≡ repeated 300 text =
    fill_by_all (λ k. get_or text (k % length text) 0 - 48) values 300 0 c.loop-i-test.array_long
    (λ k below. c.loop-i.invariant k (omega arith)) in
    IfSome_then c.new.result c.new.ensures.value (λ d h. h ∙ full)
