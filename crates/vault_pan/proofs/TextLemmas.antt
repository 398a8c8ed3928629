-- The digits of the first bytes of a text.
use Rattle.std.proofs.Common.{◌≡◌, ℕ, ◌+◌, ◌<◌, ◌≤◌, List, [], ◌∷◌, ◌++◌, cond, true, false, All, length}
use Rattle.std.proofs.Common.{take, drop, slice_index, arith, ap, sym, ◌∙◌, take-append-drop, length-append}
use Rattle.std.proofs.Common.{IsTrue, ◌||◌, ◌==◌, ◌⊎◌}
use Rattle.std.proofs.lemmas.List.{append-nil}
use borrow.Author.Count.{below_more}
use Rattle.std.proofs.lemmas.Str.Ascii.{IsAscii-from_all}
use Rattle.std.proofs.lemmas.List.Elements.{filter_more, filter-append, filter_passes}
use Rattle.std.proofs.lemmas.Bool.Decides.{nat_tests}
use Rattle.std.specs.Char.{IsAsciiDigit, is_ascii_digit}
use Rattle.std.specs.Str.{IsAscii}
use Rattle.vault_pan.specs.CardText.{HasDigit, Separates, digits_of}

-- a digit passes the test for one
digit-test : (b : ℕ) → IsAsciiDigit b → is_ascii_digit b ≡ true
digit-test b h = grind (arith, nat_tests)

-- what passes the test is a digit
test-digit : (b : ℕ) → is_ascii_digit b ≡ true → IsAsciiDigit b
test-digit b h = grind (arith, nat_tests)

-- one byte further, a digit
pub digits_of-more : (text : List ℕ) (i : ℕ) → HasDigit text i
    → digits_of (take (i + 1) text) ≡ digits_of (take i text) ++ slice_index text i ∷ []
digits_of-more text i h =
    filter_more is_ascii_digit text i 0 h.0
    ∙ ap (λ b. digits_of (take i text) ++ cond b (slice_index text i ∷ []) []) (digit-test _ h.1)

-- a separator is no digit
other-test : (b : ℕ) → IsTrue (b == 32 || b == 45) → is_ascii_digit b ≡ false
other-test b h = grind (arith, nat_tests)

-- one byte further, a separator
pub digits_of-more_none : (text : List ℕ) (i : ℕ) → i < length text → Separates text i
    → digits_of (take (i + 1) text) ≡ digits_of (take i text)
digits_of-more_none text i inside h =
    filter_more is_ascii_digit text i 0 inside
    ∙ ap (λ b. digits_of (take i text) ++ cond b (slice_index text i ∷ []) [])
    (other-test (slice_index text i) h.0)
    ∙ append-nil (digits_of (take i text))

-- the first bytes have no more digits than the whole text
pub length-digits_of-take : (text : List ℕ) (i : ℕ)
    → length (digits_of (take i text)) ≤ length (digits_of text)
length-digits_of-take text i =
    let e =
    ap length (sym (filter-append is_ascii_digit (take i text) (drop i text))
    ∙ ap digits_of (take-append-drop i text)) in
    omega (arith, e, length-append (digits_of (take i text)) (digits_of (drop i text)))

-- the digits of a text are digits
pub digits_of-are_digits : (text : List ℕ) → All IsAsciiDigit (digits_of text)
digits_of-are_digits text k d inside = test-digit _ (filter_passes is_ascii_digit text k d inside)

-- what is so of each byte before i, and of the byte at i, is so one byte further
pub each-more : (text : List ℕ) (i : ℕ)
    → ((k : ℕ) → k < i → HasDigit text k ⊎ Separates text k) → HasDigit text i ⊎ Separates text i
    → (k : ℕ) → k < i + 1 → HasDigit text k ⊎ Separates text k
each-more text i below here = below_more (λ k. HasDigit text k ⊎ Separates text k) i below here

-- digits are ASCII
pub digits-IsAscii : (digits : List ℕ) → All IsAsciiDigit digits → IsAscii digits
digits-IsAscii digits each =
    IsAscii-from_all digits (λ k d inside. let digit = each k d inside in omega (arith, digit))
