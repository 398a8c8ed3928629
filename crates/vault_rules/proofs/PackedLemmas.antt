-- Texts of digits and their numbers.
use Rattle.std.proofs.Common.{◌≡◌, ◌≤◌, ◌<◌, ◌+◌, ◌*◌, ◌^◌, ℕ, suc, true, [], ◌∷◌}
use Rattle.std.proofs.Common.{length, drop, zero, refl, arith}
use Rattle.std.proofs.Math.Nat.{pow-succ', pow-le-pow_right}
use Rattle.std.proofs.lemmas.Bool.{and_parts}
use Rattle.std.proofs.lemmas.List.{length-drop}
use Rattle.std.proofs.lemmas.Bool.Decides.{nat_tests}
use Rattle.std.specs.Char.{is_ascii_digit}
use Rattle.std.specs.List.{list_all}
use Rattle.vault_core.specs.Keys.{Bytes}
use Rattle.vault_rules.specs.Packed.{packed}
use Rattle.vault_rules.specs.Texts.{is_number}
use Rattle.std.specs.Prelude.{nat_lt}

digit_within : (b : ℕ) → is_ascii_digit b ≡ true → (48 ≤ b) × (b < 58)
digit_within b is = grind (arith, nat_tests)

some_packed : (text : Bytes) → 1 ≤ packed text
some_packed [] = omega arith
some_packed (digit ∷ digits) = let more = some_packed digits in omega (arith, more)

-- no more than so many digits say
pub packed_below : (text : Bytes) → list_all is_ascii_digit text ≡ true
    → packed text + 1 ≤ 2 * 10 ^ length text
packed_below [] are = omega arith
packed_below (digit ∷ digits) are =
    let parts = and_parts _ _ are in
    let more = packed_below digits parts.1 in
    let within = digit_within digit parts.0 in
    let power = pow-succ' 10 (length digits) in
    omega (arith, more, within, power)

-- no two texts of digits have one number
pub packed_apart : (a b : Bytes) → list_all is_ascii_digit a ≡ true → list_all is_ascii_digit b ≡ true
    → packed a ≡ packed b → a ≡ b
packed_apart [] [] are be same = refl
packed_apart [] (y ∷ b) are be same = let some = some_packed b in absurd (omega (arith, same, some))
packed_apart (x ∷ a) [] are be same = let some = some_packed a in absurd (omega (arith, same, some))
packed_apart (x ∷ a) (y ∷ b) are be same =
    let one = and_parts _ _ are in
    let two = and_parts _ _ be in
    let low = digit_within x one.0 in
    let high = digit_within y two.0 in
    let rest : packed a ≡ packed b = omega (arith, same, low, high) in
    let first : x ≡ y = omega (arith, same, low, high, rest) in
    λ i. first i ∷ packed_apart a b one.1 two.1 rest i

-- 19 digits have room
pub packed_small : (text : Bytes) → list_all is_ascii_digit text ≡ true → length text ≤ 19
    → packed text < 20000000000000000000
packed_small text are few =
    let below = packed_below text are in
    let most : 10 ^ length text ≤ 10 ^ 19 = pow-le-pow_right (omega arith) few in
    omega (arith, below, most)

-- the digits behind some
pub digits_behind : (text : Bytes) (n : ℕ) → list_all is_ascii_digit text ≡ true
    → list_all is_ascii_digit (drop n text) ≡ true
digits_behind text zero are = are
digits_behind [] (suc n) are = refl
digits_behind (digit ∷ digits) (suc n) are = digits_behind digits n (and_parts _ _ are).1

-- a number has 10 to 19 digits
pub number_parts : (text : Bytes) → is_number text ≡ true
    → (length text ≤ 19) × (list_all is_ascii_digit text ≡ true)
number_parts text is =
    let all = and_parts _ _ is in
    let short : nat_lt (length text) 20 ≡ true = (and_parts _ _ all.0).1 in
    (grind (arith, nat_tests), all.1)

-- what is packed of the digits behind some has room for one more
pub behind_small : (text : Bytes) (n : ℕ) → is_number text ≡ true
    → packed (drop n text) < 20000000000000000000
behind_small text n is =
    let parts = number_parts text is in
    let short = length-drop n text in
    packed_small (drop n text) (digits_behind text n parts.1) (omega (arith, short, parts.0))
