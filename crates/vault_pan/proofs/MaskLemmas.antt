-- The mask of a number in three parts: the front, the hidden digits and the last four.
use Rattle.std.proofs.Common.{◌≡◌, ℕ, ◌+◌, ◌-◌, ◌<◌, ◌≤◌, List, ◌++◌, All, ◌||◌, ◌==◌, length, take, drop}
use Rattle.std.proofs.Common.{replicate, get_or, min, cond, nat_lt, nat_le, arith, refl, subst, ◌*◌, ◌∙◌}
use Rattle.std.proofs.lemmas.Grind.{common_steps}
use Rattle.std.proofs.lemmas.Bool.Decides.{nat_tests}
use Rattle.std.proofs.lemmas.List.FromFn.{fill_by_all}
use Rattle.std.proofs.lemmas.List.Elements.{All-append, All-drop, All-replicate, All-take, All-weaker}
use Rattle.std.proofs.lemmas.List.Elements.{filter-append}
use Rattle.std.proofs.lemmas.List.Sums.{length-filter}
use Rattle.std.proofs.lemmas.List.Folds.{sum_by-replicate}
use Rattle.std.proofs.lemmas.Str.Ascii.{IsAscii-from_all}
use Rattle.std.specs.Char.{IsAsciiDigit}
use Rattle.std.specs.Str.{IsAscii}
use Rattle.vault_pan.specs.CardText.{IsNumber}
use Rattle.vault_pan.specs.Mask.{IsMaskByte, IsMasked, front_of, hidden, least_hidden, mask_of, shown_at}
use Rattle.vault_pan.specs.declared.lead.Lead.{Lead}
use Rattle.vault_pan.specs.declared.lead.Lead.TheVariants.{Six, Eight}

-- a digit or `*` is ASCII
IsMaskByte-ascii : (b : ℕ) → IsMaskByte b → b < 128
IsMaskByte-ascii b h = grind (arith, nat_tests)

-- a mask is ASCII
pub masked-IsAscii : (text : List ℕ) → IsMasked text → IsAscii text
masked-IsAscii text h = IsAscii-from_all text (λ k d inside. IsMaskByte-ascii _ (h.2 k d inside))

-- a number with all but its first digits and those from an index on hidden
abbrev pub hidden_between : List ℕ → ℕ → ℕ → List ℕ
hidden_between digits front last = take front digits ++ replicate (last - front) 42 ++ drop last digits

-- it is as long as the number
length-hidden_between : (digits : List ℕ) (front last : ℕ) → front ≤ last → last ≤ length digits
    → length (hidden_between digits front last) ≡ length digits
length-hidden_between digits front last h k = grind (arith, common_steps)

-- what stands in its front
get_or-front : (digits : List ℕ) (front last k : ℕ) → front ≤ last → last ≤ length digits → k < front
    → get_or (hidden_between digits front last) k 0 ≡ get_or digits k 0
get_or-front digits front last k h l inside = grind (arith, common_steps)

-- what stands between the two indices
get_or-hidden : (digits : List ℕ) (front last k : ℕ)
    → front ≤ last → last ≤ length digits → front ≤ k → k < last
    → get_or (hidden_between digits front last) k 0 ≡ 42
get_or-hidden digits front last k h l above inside = grind (arith, common_steps)

-- what stands at its end
get_or-last : (digits : List ℕ) (front last k : ℕ)
    → front ≤ last → last ≤ length digits → last ≤ k → k < length digits
    → get_or (hidden_between digits front last) k 0 ≡ get_or digits k 0
get_or-last digits front last k h l above inside = grind (arith, common_steps)

-- what stands at each index of it
get_or-hidden_between : (digits : List ℕ) (front last k : ℕ)
    → front ≤ last → last ≤ length digits → k < length digits
    → get_or (hidden_between digits front last) k 0
    ≡ cond (nat_lt k front || nat_le last k) (get_or digits k 0) 42
get_or-hidden_between digits front last k h l inside =
    let first = get_or-front digits front last k h l in
    let middle = get_or-hidden digits front last k h l in
    let rest = λ (above : last ≤ k). get_or-last digits front last k h l above inside in
    grind (arith, nat_tests, first, middle, rest)

-- what is shown at the left leaves so many hidden before the last four
pub front_fits : (lead : Lead) (n : ℕ) → 10 ≤ n → front_of lead n + least_hidden lead ≤ n - 4
front_fits Six n many = omega arith
front_fits Eight n many = omega arith

-- a mask has these three parts
pub mask_of-parts : (lead : Lead) (digits : List ℕ) → 10 ≤ length digits
    → hidden_between digits (front_of lead (length digits)) (length digits - 4) ≡ mask_of lead digits
mask_of-parts lead digits many =
    let n = length digits in
    let fits = front_fits lead n many in
    fill_by_all (shown_at lead digits) _ n 0
    (length-hidden_between digits (front_of lead n) (n - 4) (omega (arith, fits)) (omega arith))
    (λ k inside. get_or-hidden_between digits (front_of lead n) (n - 4) k (omega (arith, fits)) (omega arith)
    inside)

-- as many are hidden as stand between the two indices, or more
hidden-hidden_between : (digits : List ℕ) (front last : ℕ)
    → last - front ≤ hidden (hidden_between digits front last)
hidden-hidden_between digits front last =
    let stars = replicate (last - front) 42 in
    let is_star = λ (b : ℕ). b == 42 in
    let all : hidden stars ≡ (last - front) * 1 =
    length-filter is_star stars ∙ sum_by-replicate (λ b. cond (is_star b) 1 0) (last - front) 42 in
    grind (
      arith,
      common_steps,
      filter-append is_star (take front digits ++ stars) (drop last digits),
      filter-append is_star (take front digits) stars,
    )

-- a digit is a digit or `*`
digit-IsMaskByte : (b : ℕ) → IsAsciiDigit b → IsMaskByte b
digit-IsMaskByte b h = grind (arith, nat_tests)

-- each byte of it is a digit or `*`
All-hidden_between : (digits : List ℕ) (front last : ℕ) → All IsAsciiDigit digits
    → All IsMaskByte (hidden_between digits front last)
All-hidden_between digits front last each =
    let shown = All-weaker IsAsciiDigit IsMaskByte digit-IsMaskByte digits each in
    All-append IsMaskByte (take front digits ++ replicate (last - front) 42) (drop last digits)
    (All-append IsMaskByte (take front digits) (replicate (last - front) 42)
    (All-take IsMaskByte front digits shown) (All-replicate IsMaskByte (last - front) 42 refl))
    (All-drop IsMaskByte last digits shown)

-- a lead hides four digits or more
hides_four : (lead : Lead) → 4 ≤ least_hidden lead
hides_four Six = omega arith
hides_four Eight = omega arith

-- so many are hidden
pub mask_of-hides : (lead : Lead) (digits : List ℕ) → IsNumber digits
    → least_hidden lead ≤ hidden (mask_of lead digits)
mask_of-hides lead digits h =
    let n = length digits in
    let fits = front_fits lead n h.0 in
    let stars = hidden-hidden_between digits (front_of lead n) (n - 4) in
    subst (λ (text : List ℕ). least_hidden lead ≤ hidden text) (mask_of-parts lead digits h.0)
    (omega (arith, fits, stars))

-- what `mask_of` makes of a number is a mask
pub mask_of-IsMasked : (lead : Lead) (digits : List ℕ) → IsNumber digits → IsMasked (mask_of lead digits)
mask_of-IsMasked lead digits h =
    let n = length digits in
    let front = front_of lead n in
    let low = h.0 in
    let high = h.1 in
    let fits = front_fits lead n h.0 in
    let long = length-hidden_between digits front (n - 4) (omega (arith, fits)) (omega arith) in
    let parts = mask_of-parts lead digits h.0 in
    let many = mask_of-hides lead digits h in
    let four = hides_four lead in (
      subst (λ (text : List ℕ). 10 ≤ length text) parts (omega (arith, long)),
      subst (λ (text : List ℕ). length text ≤ 19) parts (omega (arith, long)),
      subst (λ (text : List ℕ). All IsMaskByte text) parts (All-hidden_between digits front (n - 4) h.2),
      omega (arith, many, four),
    )
