-- Names, tokens and card numbers: the tests and the facts.
use Rattle.std.proofs.Common.{◌≡◌, ℕ, Bool, true, false, not, length, refl, sym, ap, arith}
use Rattle.std.proofs.Math.Dec.{leb}
use Rattle.std.specs.Char.{is_ascii_digit, IsAsciiDigit}
use Rattle.std.proofs.lemmas.Bool.{and_parts, and_from}
use Rattle.std.proofs.lemmas.Bool.Decides.{nat_tests}
use Rattle.std.proofs.lemmas.List.Sums.{AllPass-from_list_all, list_all-from_AllPass}
use Rattle.vault_core.specs.Keys.{Bytes}
use Rattle.vault_core.specs.Name.{IsName, is_name_byte}
use Rattle.vault_pan.specs.CardText.{IsNumber, IsPan, IsToken}
use Rattle.vault_rules.specs.Texts.{is_name, is_number, is_pan, is_token}
use Rattle.vault_rules.proofs.Numbers.{below_is, below_from}

pub name_is : (text : Bytes) → is_name text ≡ true → IsName text
name_is text e =
    let all = and_parts _ _ e in
    let sizes = and_parts _ _ all.0 in (
      below_is 0 (length text) sizes.0,
      let h = below_is (length text) 17 sizes.1 in omega arith,
      AllPass-from_list_all is_name_byte text all.1,
    )

pub name_from : (text : Bytes) → IsName text → is_name text ≡ true
name_from text h =
    and_from _ _
    (and_from _ _ (below_from 0 (length text) h.0) (below_from (length text) 17 (omega (arith, h.1))))
    (list_all-from_AllPass is_name_byte text h.2)

digit_is : (c : ℕ) → is_ascii_digit c ≡ true → IsAsciiDigit c
digit_is c e =
    let parts = and_parts (leb 48 c) (leb c 57) e in
    let a = parts.0 in
    let b = parts.1 in
    (grind (arith, nat_tests), grind (arith, nat_tests))

digit_from : (c : ℕ) → IsAsciiDigit c → is_ascii_digit c ≡ true
digit_from c h =
    let a = h.0 in
    let b = h.1 in
    and_from (leb 48 c) (leb c 57) (grind (arith, nat_tests)) (grind (arith, nat_tests))

number_is : (text : Bytes) → is_number text ≡ true → IsNumber text
number_is text e =
    let all = and_parts _ _ e in
    let sizes = and_parts _ _ all.0 in
    let digits = AllPass-from_list_all is_ascii_digit text all.1 in (
      let h = below_is 9 (length text) sizes.0 in omega arith,
      let h = below_is (length text) 20 sizes.1 in omega arith,
      λ k d within. digit_is _ (digits k d within),
    )

number_from : (text : Bytes) → IsNumber text → is_number text ≡ true
number_from text h =
    and_from _ _ (and_from _ _ (below_from 9 (length text) (omega (arith, h.0)))
    (below_from (length text) 20 (omega (arith, h.1))))
    (list_all-from_AllPass is_ascii_digit text (λ k d within. digit_from _ (h.2 k d within)))

pub pan_is : (text : Bytes) → is_pan text ≡ true → IsPan text
pan_is text e = let parts = and_parts _ _ e in (number_is text parts.0, parts.1)

pub pan_from : (text : Bytes) → IsPan text → is_pan text ≡ true
pan_from text h = and_from _ _ (number_from text h.0) h.1

not_true : (b : Bool) → not b ≡ true → b ≡ false
not_true true e = sym e
not_true false e = refl

pub token_is : (text : Bytes) → is_token text ≡ true → IsToken text
token_is text e = let parts = and_parts _ _ e in (number_is text parts.0, not_true _ parts.1)

pub token_from : (text : Bytes) → IsToken text → is_token text ≡ true
token_from text h = and_from _ _ (number_from text h.0) (ap not h.1)
