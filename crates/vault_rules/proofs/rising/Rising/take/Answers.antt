use Rattle.std.proofs.Common.{◌≡◌, ap, sym, ◌∙◌, w64, ◌&&◌, Some, true, false, arith}
use Rattle.std.proofs.Math.Bool.{and-false}
use Rattle.std.proofs.lemmas.Int.{ints, to_z-of_z}
use Rattle.std.specs.Int.RustNames.{int_lt}
use Rattle.std.specs.Option.{option_map_or}
use Rattle.vault_rules.specs.RisingNumbers.{are_rising}
use Rattle.vault_rules.proofs.RisingNumbers.{last_more, rising_more, with_true}
use Rattle.vault_rules.proofs.rising.Rising.take.Goals as goal
use Rattle.vault_rules.proofs.rising.Rising.take.Goals.{in-Some+then-number-last, in-Some+else-number-last}
use Rattle.vault_rules.proofs.rising.Rising.take.Goals.{in_default}
use Rattle.vault_rules.specs.declared.rising.Rising.{Rising}

pub returns : goal.returns
returns c numbers is =
    let n = c.args.number in
    let more = rising_more numbers n in
    record {
      last = ap (λ x. Some x) (to_z-of_z w64 n c.ranges.number) ∙ sym (last_more numbers n);
      rises = elim c.match-self.branch [
        | in-Some+then-number-last w ↦
            let low = w.if-number-last.true in
            let below : int_lt w.in-Some.last n ≡ false = grind (arith, ints) in
            ap (λ (r : Rising). r.rises) w.self-is
            ∙ sym (more ∙ ap (λ o. are_rising numbers && option_map_or (λ one. int_lt one n) o true)
            (sym is.last ∙ w.in-Some.is) ∙ ap (λ b. are_rising numbers && b) below
            ∙ and-false (are_rising numbers))
        | in-Some+else-number-last w ↦
            let high = w.if-number-last.false in
            let above : int_lt w.in-Some.last n ≡ true = grind (arith, ints) in
            ap (λ (r : Rising). r.rises) w.self-is ∙ is.rises
            ∙ sym (more ∙ ap (λ o. are_rising numbers && option_map_or (λ one. int_lt one n) o true)
            (sym is.last ∙ w.in-Some.is) ∙ ap (λ b. are_rising numbers && b) above
            ∙ with_true (are_rising numbers))
        | in_default w ↦
            ap (λ (r : Rising). r.rises) w.self-is ∙ is.rises
            ∙ sym (more ∙ ap (λ o. are_rising numbers && option_map_or (λ one. int_lt one n) o true)
            (sym is.last ∙ w.in_default.is) ∙ with_true (are_rising numbers))
      ];
    }
