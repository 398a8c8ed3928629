use Rattle.std.proofs.Common.{ℕ, ap, arith, length, take, ◌∙◌}
use Rattle.std.specs.Prelude.{filter}
use Rattle.std.specs.Char.{is_ascii_digit}
use Rattle.std.proofs.lemmas.List.{length-take-le, take_all}
use Rattle.std.proofs.lemmas.List.Sums.{count_by-le-length, length-filter}
use Rattle.vault_words.proofs.why.digits_in.Goals as goal

-- no more digits than bytes
pub overflow_add-digits : goal.overflow_add-digits
overflow_add-digits c =
    let i : ℕ = c.loop-byte.byte-index in
    let bytes = take i c.args.text.now in
    omega (
      arith,
      c.loop-byte.invariant,
      length-filter is_ascii_digit bytes,
      count_by-le-length is_ascii_digit bytes,
      length-take-le i c.args.text.now c.loop-byte.auto.byte-index-end,
      c.loop-byte-test.true,
      c.loop-byte.auto,
      c,
    )

pub returns : goal.returns
returns c =
    let i : ℕ = c.loop-byte.byte-index in
    c.loop-byte.invariant
    ∙ ap (λ bytes. length (filter is_ascii_digit bytes))
    (take_all i c.args.text.now (omega (arith, c.loop-byte-test.false)))
