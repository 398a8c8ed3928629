-- A candidate is 10 to 19 digits, as many as its number has, and fits it.
use Rattle.std.proofs.Common.{◌≡◌, ℕ, ◌+◌, ◌-◌, ◌*◌, ◌<◌, List, ◌++◌, All, length, take, drop, map, arith}
use Rattle.std.proofs.Common.{ap, ◌∙◌, true, ◌==◌, ◌&&◌}
use Rattle.std.proofs.lemmas.List.Elements.{All-append, All-map, All-take, All-drop}
use Rattle.std.proofs.lemmas.Grind.{common_steps}
use Rattle.std.specs.Cmp.{tied_itself}
use Rattle.std.specs.Cmp.Lexicographic.{texts_ties, nat_list_cmp_total}
use Rattle.std.specs.Ordering.{is_eq}
use Rattle.std.proofs.lemmas.Bool.Decides.{nat_tests}
use Rattle.std.specs.Char.{IsAsciiDigit}
use Rattle.vault_pan.specs.CardText.{IsNumber, last_four, fits, same}
use Rattle.vault_pan.specs.Draw.{IsDrawing, candidate_digits}

-- values below 10 are written as digits
All-written : (values : List ℕ) → All (λ v. v < 10) values → All (λ v. IsAsciiDigit (v + 48)) values
All-written values small k d inside = let h = small k d inside in (omega arith, omega arith)

-- a candidate is as long as its number
length-candidate_digits : (values : List ℕ) (k : ℕ) (number : List ℕ)
    → length values ≡ 300 → k < 20 → IsNumber number
    → length (candidate_digits values k number) ≡ length number
length-candidate_digits values k number l k<20 h =
    let low = h.0 in
    let high = h.1 in
    grind (arith, common_steps)

-- a candidate has a card number's length and digits
pub candidate_digits-IsNumber : (values : List ℕ) (k : ℕ) (number : List ℕ) → IsDrawing values → k < 20
    → IsNumber number → IsNumber (candidate_digits values k number)
candidate_digits-IsNumber values k number d k<20 h =
    let e = length-candidate_digits values k number d.0 k<20 h in
    let low = h.0 in
    let high = h.1 in
    let group = take (length number - 4) (drop (15 * k) values) in
    let P = λ (v : ℕ). IsAsciiDigit (v + 48) in (
      omega (arith, e),
      omega (arith, e),
      All-append IsAsciiDigit (map (λ v. v + 48) group) (last_four number)
          (All-map IsAsciiDigit (λ v. v + 48) group
          (All-take P (length number - 4) (drop (15 * k) values)
          (All-drop P (15 * k) values (All-written values d.1))))
          (All-drop IsAsciiDigit (length number - 4) number h.2),
    )

-- what follows a front of n bytes
drop-front : (front rest : List ℕ) (n : ℕ) → length front ≡ n → drop n (front ++ rest) ≡ rest
drop-front front rest n l = grind (arith, common_steps)

-- each list is the same as itself
same-refl : (xs : List ℕ) → same xs xs ≡ true
same-refl xs = texts_ties xs xs ∙ ap is_eq (tied_itself nat_list_cmp_total xs)

-- a candidate fits its number
pub candidate_digits-fits : (values : List ℕ) (k : ℕ) (number : List ℕ) → IsDrawing values → k < 20
    → IsNumber number → fits (candidate_digits values k number) number ≡ true
candidate_digits-fits values k number d k<20 h =
    let e = length-candidate_digits values k number d.0 k<20 h in
    let low = h.0 in
    let high = h.1 in
    let group = take (length number - 4) (drop (15 * k) values) in
    let size : length (map (λ v. v + 48) group) ≡ length number - 4 = grind (arith, common_steps, d.0) in
    let last : last_four (candidate_digits values k number) ≡ last_four number =
    ap (λ n. drop (n - 4) (candidate_digits values k number)) e
    ∙ drop-front (map (λ v. v + 48) group) (last_four number) (length number - 4) size
    in
    let equal : (length (candidate_digits values k number) == length number) ≡ true =
    grind (arith, nat_tests, e) in
    ap (λ b. b && same (last_four (candidate_digits values k number)) (last_four number)) equal
    ∙ ap (λ xs. same xs (last_four number)) last ∙ same-refl (last_four number)
