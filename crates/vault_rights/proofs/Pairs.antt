-- Tables of a word and an end.
use Rattle.std.proofs.Common.{◌≡◌, ℤ, List, [], ◌∷◌, Option, Some, None, length, get_or, refl, sym, ap}
use Rattle.std.proofs.Common.{◌∙◌, inl, inr, arith, codes, Less, Greater}
use Rattle.std.specs.Prelude.{IfNone}
use Rattle.std.specs.List.Sorted.{IsStrictlySortedBy}
use Rattle.std.proofs.Common.{string_bytes}
use Rattle.toml.specs.Data.{Data, string, integer, float, boolean, datetime, array}
use Rattle.toml.specs.Data.{table, no_members, member, get_member, as_str, as_integer}
use Rattle.toml.specs.View.{view, members_view}
use Rattle.toml.proofs.Views.{Entry}
use Rattle.vault_core.specs.Keys.{Bytes, bytes_cmp}
use Rattle.vault_rights.specs.Items.{pair_of}
use Rattle.vault_rights.proofs.Members.{Ascend, at-or-on, here, some_same}

-- the keys of the two
abbrev right_key : Bytes
right_key = codes "right"

abbrev until_key : Bytes
until_key = codes "until"

pub if-none : {X : Type 0} (o : Option X) (P : Type 0) → P → IfNone o P
if-none None P p = p
if-none (Some x) P p = tt

pub as-string : (d : Data) (s : Bytes) → Some s ≡ as_str d → d ≡ string s
as-string (string t) s h = ap string (sym (some_same h))
as-string (array t) s h = cc
as-string (integer t) s h = cc
as-string (float t) s h = cc
as-string (boolean t) s h = cc
as-string (datetime t) s h = cc
as-string (table t) s h = cc

pub as-integer : (d : Data) (z : ℤ) → Some z ≡ as_integer d → d ≡ integer z
as-integer (integer t) z h = ap integer (sym (some_same h))
as-integer (array t) z h = cc
as-integer (string t) z h = cc
as-integer (float t) z h = cc
as-integer (boolean t) z h = cc
as-integer (datetime t) z h = cc
as-integer (table t) z h = cc

keys-differ : ¬ (right_key ≡ until_key)
keys-differ h =
    let first : get_or right_key 0 0 ≡ get_or until_key 0 0 = ap (λ w. get_or w 0 0) h in
    absurd (omega arith)

keys-fall : bytes_cmp until_key right_key ≡ Greater
keys-fall = refl

-- a pair has two members, the word and the end
pub pair-two : (es : List Entry) (word : Bytes) (end : ℤ) → members_view es ≡ pair_of word end
    → length es ≡ 2
pair-two [] word end h = cc
pair-two (x ∷ []) word end h = cc
pair-two (x ∷ y ∷ []) word end h = refl
pair-two (x ∷ y ∷ z ∷ es) word end h = cc

pub pair-word : (es : List Entry) (word : Bytes) (end : ℤ) → members_view es ≡ pair_of word end
    → get_member (codes "right") (members_view es) ≡ Some (string word)
pair-word es word end h = ap (get_member (codes "right")) h

pub pair-end : (es : List Entry) (word : Bytes) (end : ℤ) → members_view es ≡ pair_of word end
    → get_member (codes "until") (members_view es) ≡ Some (integer end)
pair-end es word end h = ap (get_member (codes "until")) h

-- and two members, the word and the end, are a pair
pub pair-is : (es : List Entry) (word : Bytes) (end : ℤ) → Ascend es → length es ≡ 2
    → get_member (codes "right") (members_view es) ≡ Some (string word)
    → get_member (codes "until") (members_view es) ≡ Some (integer end)
    → members_view es ≡ pair_of word end
unfolding IsStrictlySortedBy
pair-is [] word end ascend two first second = absurd (omega arith)
pair-is (x ∷ []) word end ascend two first second = absurd (omega arith)
pair-is (x ∷ y ∷ []) word end ascend two first second =
    let k = string_bytes x.0 in
    let l = string_bytes y.0 in
    elim (at-or-on right_key k) [
      | inl right ↦ elim (at-or-on until_key k) [
        | inl until ↦ absurd (keys-differ (right ∙ sym until))
        | inr on ↦ elim (at-or-on until_key l) [
          | inl until ↦
              let word_is : view x.1 ≡ string word =
              some_same (sym (here right_key k (view x.1) (member l (view y.1) no_members) right) ∙ first) in
              let end_is : view y.1 ≡ integer end =
              some_same
              (sym (here until_key l (view y.1) no_members until) ∙ sym (on _ _) ∙ second) in
              λ i. member (sym right i) (word_is i) (member (sym until i) (end_is i) no_members)
          | inr off ↦ absurd (let none = sym (on _ _) ∙ second in let gone = sym (off _ _) ∙ none in cc)
        ]
      ]
      | inr on ↦ elim (at-or-on right_key l) [
        | inl right ↦ elim (at-or-on until_key k) [
          | inl until ↦
              let rise : bytes_cmp until_key right_key ≡ Less =
              (λ i. bytes_cmp (until i) (right i)) ∙ ascend.0.0 in
              absurd (let fall = keys-fall in cc)
          | inr beyond ↦ elim (at-or-on until_key l) [
            | inl until ↦ absurd (keys-differ (right ∙ sym until))
            | inr off ↦ absurd (let none = sym (beyond _ _) ∙ second in let gone = sym (off _ _) ∙ none in cc)
          ]
        ]
        | inr off ↦ absurd (let none = sym (on _ _) ∙ first in let gone = sym (off _ _) ∙ none in cc)
      ]
    ]
pair-is (x ∷ y ∷ z ∷ es) word end ascend two first second = absurd (omega arith)
