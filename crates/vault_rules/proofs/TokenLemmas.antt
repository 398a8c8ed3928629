-- The tokens of entries and of one more.
use Rattle.std.proofs.Common.{◌≡◌, ◌∙◌, ◌+◌, ◌&&◌, ℕ, ℤ, Bool, true, false, cond, List, [], ◌∷◌, ◌++◌}
use Rattle.std.proofs.Common.{Option, Some, None, option_map, length, filter, refl, sym, ap, arith}
use Rattle.std.proofs.Common.{true≢false, is_some, not}
use Rattle.std.specs.Prelude.{bytes_eq, string_bytes}
use Rattle.std.proofs.lemmas.Bool.{and_parts}
use Rattle.std.proofs.lemmas.List.{length-append}
use Rattle.std.proofs.lemmas.List.Elements.{filter-append}
use Rattle.std.proofs.lemmas.List.Folds.{find-append}
use Rattle.std.specs.List.{find, list_all}
use Rattle.std.specs.Option.{option_map_or, option_or}
use Rattle.std.proofs.lemmas.Cmp.{tied_itself}
use Rattle.std.specs.Cmp.{nat_cmp_total}
use Rattle.std.specs.Cmp.Lexicographic.{texts_ties}
use Rattle.std.specs.FinMap.{nat_cmp-IsAntisymmetric}
use Rattle.std.specs.Ordering.{int_eq, is_eq, nat_cmp, ordering_then}
use Rattle.std.specs.declared.cmp.Ordering.{Ordering}
use Rattle.std.specs.declared.cmp.Ordering.TheVariants.{Equal}
use Rattle.vault_core.specs.Keys.{Bytes, bytes_cmp}
use Rattle.vault_rules.specs.Lookups.{entry_of, held_by, is_known, merchant_of, used_by}
use Rattle.vault_rules.specs.Packed.{packed}
use Rattle.vault_rules.specs.Rules.{has_token}
use Rattle.vault_pan.specs.Luhn.{passes_check}
use Rattle.vault_rules.specs.Texts.{is_number, is_pan, is_token}
use Rattle.vault_rules.specs.declared.rows.RawMerchant.{RawMerchant}
use Rattle.vault_rules.specs.declared.rows.RawEntry.{RawEntry}
use Rattle.vault_rules.proofs.FirstLemmas.{both}
use Rattle.vault_rules.proofs.Found.{bytes_are, bytes_same}
use Rattle.vault_rules.proofs.LiveKeys.{merchant_named}
use Rattle.vault_rules.proofs.PackedLemmas.{number_parts, packed_apart}

-- how many rows pass a test, and one row more
count_more : {X : Type 0} (p : X → Bool) (xs : List X) (x : X)
    → length (filter p (xs ++ x ∷ [])) ≡ length (filter p xs) + cond (p x) 1 0
count_more p xs x =
    ap length (filter-append p xs (x ∷ [])) ∙ length-append (filter p xs) (filter p (x ∷ []))
    ∙ ap (λ n. length (filter p xs) + n) (one (p x))
  where
    one : (b : Bool) → length (cond b (x ∷ []) []) ≡ cond b 1 0
    one true = refl
    one false = refl

pub held_more : (entries : List RawEntry) (e : RawEntry) (name : Bytes)
    → held_by (entries ++ e ∷ []) name
    ≡ held_by entries name + cond (bytes_eq (string_bytes e.merchant) name) 1 0
held_more entries e name = count_more (λ (e : RawEntry). bytes_eq (string_bytes e.merchant) name) entries e

pub used_more : (entries : List RawEntry) (e : RawEntry) (id : ℤ)
    → used_by (entries ++ e ∷ []) id
    ≡ used_by entries id + cond (option_map_or (λ card. int_eq card id) e.card false) 1 0
used_more entries e id =
    count_more (λ (e : RawEntry). option_map_or (λ card. int_eq card id) e.card false) entries e

-- where each entry has a merchant and a token, there is none of another merchant, or at another text
pub none_of : (merchants : List RawMerchant) (entries : List RawEntry) (name token : Bytes)
    → list_all (has_token merchants) entries ≡ true → (is_known merchants name && is_token token) ≡ false
    → entry_of entries name token ≡ None
none_of merchants [] name token are none = refl
none_of merchants (e ∷ entries) name token are none =
    let parts = and_parts _ _ are in
    let rest = none_of merchants entries name token parts.1 none in
    elim (bytes_eq (string_bytes e.merchant) name && bytes_eq (string_bytes e.token) token)
    as (λ b. (bytes_eq (string_bytes e.merchant) name && bytes_eq (string_bytes e.token) token) ≡ b
    → cond b (Some e) (entry_of entries name token) ≡ None) [
      | true ↦ λ is.
          let both = and_parts _ _ is in
          let m = bytes_are (string_bytes e.merchant) name both.0 in
          let t = bytes_are (string_bytes e.token) token both.1 in
          absurd (true≢false (sym parts.0 ∙ (λ i. is_known merchants (m i) && is_token (t i)) ∙ none))
      | false ↦ λ isnt. rest
    ] refl

-- the usage of a token, among entries and one more
pub usage_more : (entries : List RawEntry) (e : RawEntry) (name token : Bytes)
    → option_map (λ (e : RawEntry). e.usage) (entry_of (entries ++ e ∷ []) name token)
    ≡ option_or (option_map (λ (e : RawEntry). e.usage) (entry_of entries name token))
    (cond (bytes_eq (string_bytes e.merchant) name && bytes_eq (string_bytes e.token) token)
    (Some e.usage) None)
usage_more entries e name token =
    let test =
    λ (e : RawEntry). bytes_eq (string_bytes e.merchant) name && bytes_eq (string_bytes e.token) token in
    ap (option_map (λ (e : RawEntry). e.usage)) (find-append test entries (e ∷ []))
    ∙ mapped (find test entries) (test e)
  where
    mapped : (o : Option RawEntry) (b : Bool)
        → option_map (λ (e : RawEntry). e.usage) (option_or o (cond b (Some e) None))
        ≡ option_or (option_map (λ (e : RawEntry). e.usage) o) (cond b (Some e.usage) None)
    mapped None true = refl
    mapped None false = refl
    mapped (Some x) b = refl

-- a token and a card number are numbers
pub token_number : (text : Bytes) → is_token text ≡ true → is_number text ≡ true
token_number text is = (and_parts (is_number text) (not (passes_check text)) is).0

pub pan_number : (text : Bytes) → is_pan text ≡ true → is_number text ≡ true
pan_number text is = (and_parts (is_number text) (passes_check text) is).0

-- texts of one number are one
packed_same : (a b : Bytes) → is_number a ≡ true → is_number b ≡ true → packed a ≡ packed b → a ≡ b
packed_same a b is it same = packed_apart a b (number_parts a is).1 (number_parts b it).1 same

-- and compare as their texts do
pub digits_tie : (a b : Bytes) → is_number a ≡ true → is_number b ≡ true
    → is_eq (nat_cmp (packed a) (packed b)) ≡ bytes_eq a b
digits_tie a b is it =
    elim (bytes_eq a b) as (λ t. bytes_eq a b ≡ t → is_eq (nat_cmp (packed a) (packed b)) ≡ t) [
      | true ↦ λ same. ap (λ x. is_eq (nat_cmp (packed x) (packed b))) (bytes_are a b same)
          ∙ ap is_eq (tied_itself nat_cmp_total (packed b))
      | false ↦ λ apart. untied (nat_cmp (packed a) (packed b))
          (λ tie. true≢false (sym (bytes_same a b
          (packed_same a b is it (nat_cmp-IsAntisymmetric (packed a) (packed b) tie))) ∙ apart))
    ] refl
  where
    untied : (o : Ordering) → (o ≡ Equal → ⊥) → is_eq o ≡ false
    untied o not = grind arith

-- a merchant's count, after an entry of a merchant that is there
pub held_step : (merchants : List RawMerchant) (entries : List RawEntry) (e : RawEntry) (m : RawMerchant)
    (key name : Bytes) (old new : ℕ) → merchant_of merchants (string_bytes e.merchant) ≡ Some m
    → key ≡ string_bytes m.name → new ≡ old + cond (is_eq (bytes_cmp key name)) 1 0
    → old ≡ held_by entries name → new ≡ held_by (entries ++ e ∷ []) name
held_step merchants entries e m key name old new found is put before =
    let ties = sym (texts_ties key name) in
    put
    ∙ (λ i. before i + cond (ties i) 1 0)
    ∙ ap (λ text. held_by entries name + cond (bytes_eq text name) 1 0) is
    ∙ ap (λ text. held_by entries name + cond (bytes_eq text name) 1 0)
    (merchant_named merchants (string_bytes e.merchant) m found)
    ∙ sym (held_more entries e name)

-- after one of no merchant that is there
pub held_still : (merchants : List RawMerchant) (entries : List RawEntry) (e : RawEntry) (name : Bytes)
    → merchant_of merchants (string_bytes e.merchant) ≡ None → is_known merchants name ≡ true
    → held_by (entries ++ e ∷ []) name ≡ held_by entries name
held_still merchants entries e name none known =
    held_more entries e name
    ∙ (elim (bytes_eq (string_bytes e.merchant) name)
    as (λ b. bytes_eq (string_bytes e.merchant) name ≡ b
    → held_by entries name + cond b 1 0 ≡ held_by entries name) [
      | true ↦ λ same. absurd (true≢false (sym known
          ∙ ap (is_known merchants) (sym (bytes_are (string_bytes e.merchant) name same)) ∙ ap is_some none))
      | false ↦ λ apart. omega arith
    ] refl)

-- the usage of a token, after an entry that has one
pub usage_step : (merchants : List RawMerchant) (entries : List RawEntry) (e : RawEntry) (m : RawMerchant)
    (key name token : Bytes) (number : ℕ) (usage : ℤ) (old new : Option ℤ)
    → merchant_of merchants (string_bytes e.merchant) ≡ Some m → key ≡ string_bytes m.name
    → number ≡ packed (string_bytes e.token) → usage ≡ e.usage
    → is_token (string_bytes e.token) ≡ true → is_token token ≡ true
    → new ≡ option_or old (cond (is_eq (ordering_then (nat_cmp number (packed token)) (bytes_cmp key name)))
    (Some usage) None)
    → old ≡ option_map (λ (e : RawEntry). e.usage) (entry_of entries name token)
    → new ≡ option_map (λ (e : RawEntry). e.usage) (entry_of (entries ++ e ∷ []) name token)
usage_step merchants entries e m key name token number usage old new found keyed numbered used is it put
    before =
    put
    ∙ (λ i. option_or old (cond (is_eq (ordering_then (nat_cmp (numbered i) (packed token))
    (bytes_cmp (keyed i) name))) (Some (used i)) None))
    ∙ ap (λ b. option_or old (cond b (Some e.usage) None)) (ties
    ∙ ap (λ text. bytes_eq text name && bytes_eq (string_bytes e.token) token)
    (merchant_named merchants (string_bytes e.merchant) m found))
    ∙ ap (λ o. option_or o (cond (bytes_eq (string_bytes e.merchant) name
    && bytes_eq (string_bytes e.token) token) (Some e.usage) None)) before
    ∙ sym (usage_more entries e name token)
  where
    turned : (a b : Bool) → a && b ≡ b && a
    turned true true = refl
    turned true false = refl
    turned false true = refl
    turned false false = refl

    ties : is_eq (ordering_then (nat_cmp (packed (string_bytes e.token)) (packed token))
        (bytes_cmp (string_bytes m.name) name))
        ≡ bytes_eq (string_bytes m.name) name && bytes_eq (string_bytes e.token) token
    ties =
        both (nat_cmp (packed (string_bytes e.token)) (packed token)) (bytes_cmp (string_bytes m.name) name)
        ∙ (let names = sym (texts_ties (string_bytes m.name) name) in
        λ i. digits_tie (string_bytes e.token) token (token_number (string_bytes e.token) is)
        (token_number token it) i && names i)
        ∙ turned (bytes_eq (string_bytes e.token) token) (bytes_eq (string_bytes m.name) name)
