use Rattle.std.proofs.Common.{◌≡◌, ◌+◌, ◌++◌, ◌∷◌, [], ◌∙◌, List, Some, ap, arith, length, length-append}
use Rattle.std.proofs.Common.{rules, subst, sym, true≢false}
use Rattle.vault_listen.specs.Live.{AreGiven, IsPairOf, Pair}
use Rattle.vault_listen.proofs.Turns.{given_then}
use Rattle.vault_listen.proofs.live.LiveSourceSource.next.Goals as goal

pub returns-then-is_err-clause-later : goal.returns-then-is_err-clause-later
returns-then-is_err-clause-later g c =
    let drawn = c.digits-digits.ensures.same in
    let asked = c.moment.ensures.same in
    let kept : c.push.new.self.items ≡ c.args.self.now.given.items =
    (rw c.if-is_err.ensures.negation at c.push.ensures.items) ∙ ap (λ s. s.given.items) drawn
    ∙ ap (λ s. s.given.items) asked in
    record {
      goes_on = λ began moment digits from. record {
        moment_is = ap (λ s. s.moment) drawn ∙ ap (λ s. s.moment) asked ∙ from.moment_is;
        digits_is = ap (λ s. s.digits) drawn ∙ ap (λ s. s.digits) asked ∙ from.digits_is;
        tells_so = λ turn now it. from.tells_so turn now (c.moment.ensures.tells_so turn now
            (subst (λ q. g.Q.Questions.tells q turn now) (ap (λ s. s.questions) drawn) it));
        given = subst (λ (pairs : List Pair). AreGiven (g.Q.Questions.tells began) moment digits pairs)
            (sym kept) from.given;
        in_turn = λ free calm. absurd (true≢false calm);
      };
      counted = omega (
        arith,
        ap (λ (pairs : List Pair). length pairs) kept,
        ap (λ s. s.left) drawn,
        ap (λ s. s.left) asked,
      );
    }

pub returns-clause-later : goal.returns-clause-later
returns-clause-later g c =
    let drawn = c.digits-digits.ensures.same in
    let asked = c.moment.ensures.same in
    let tells = g.Q.Questions.tells in
    let told = g.Q.Questions.told in
    let first = c.args.self.now in
    let pair : Pair = (c.in-Some.now, c.digits-digits.result) in
    let before : List Pair = first.given.items in
    let more : c.push.new.self.items ≡ before ++ pair ∷ [] =
    (rw c.if-is_err.ensures.negation at c.push.ensures.items) ∙ ap (λ s. s.given.items ++ pair ∷ []) drawn
    ∙ ap (λ s. s.given.items ++ pair ∷ []) asked in
    let size : length c.push.new.self.items ≡ length before + 1 =
    ap (λ (pairs : List Pair). length pairs) more ∙ length-append before (pair ∷ []) in
    record {
      goes_on = λ began moment digits from.
          let fits : IsPairOf moment digits pair = record {
            moment_is = λ now is.
                let found : Some c.in-Some.now ≡ Some now =
                sym c.in-Some.is ∙ c.moment.ensures.fixed now (from.moment_is ∙ is) in
                cc (found);
            digits_are = λ digits is. c.digits-digits.ensures.fixed digits
                (ap (λ s. s.digits) asked ∙ from.digits_is ∙ is);
            is_moment = search (rules, c.moment.type_inv, c.in-Some.is);
            is_drawing = search (rules, c.digits-digits.type_inv);
          } in record {
            moment_is = ap (λ s. s.moment) drawn ∙ ap (λ s. s.moment) asked ∙ from.moment_is;
            digits_is = ap (λ s. s.digits) drawn ∙ ap (λ s. s.digits) asked ∙ from.digits_is;
            tells_so = λ turn now it. from.tells_so turn now (c.moment.ensures.tells_so turn now
                (subst (λ q. tells q turn now) (ap (λ s. s.questions) drawn) it));
            given = subst (λ (pairs : List Pair). AreGiven (tells began) moment digits pairs) (sym more)
                (given_then (tells began) moment digits before pair from.given fits
                (λ free. subst (λ turn. tells began turn pair.0) (from.in_turn free c.if-self.false)
                (from.tells_so (told first.questions) pair.0
                (rw c.in-Some.is at c.moment.ensures.told (from.moment_is ∙ free)))));
            in_turn = λ free calm.
                ap (λ s. told s.questions) drawn
                ∙ (rw c.in-Some.is at c.moment.ensures.counts (from.moment_is ∙ free))
                ∙ ap (λ n. n + 1) (from.in_turn free c.if-self.false) ∙ sym size;
          };
      counted = omega (arith, size, ap (λ s. s.left) drawn, ap (λ s. s.left) asked, c.if-self-eq0.false);
    }
