-- The key of one entry beside the rows that it names.
use Rattle.std.proofs.Common.{◌≡◌, ◌∙◌, ◌&&◌, ℤ, Bool, true, false, cond, List, [], ◌∷◌, Option, Some, None}
use Rattle.std.proofs.Common.{option_map, refl, sym, ap}
use Rattle.std.specs.Prelude.{option_and_then, string_bytes, bytes_eq, if◌then◌else◌}
use Rattle.std.specs.List.{find}
use Rattle.vault_core.specs.Keys.{Bytes}
use Rattle.vault_core.proofs.Finds.{some_same}
use Rattle.std.proofs.lemmas.Bool.{and_parts}
use Rattle.std.specs.Option.{option_map_or}
use Rattle.vault_pan.specs.CardText.{fits as fits_spec}
use Rattle.vault_rules.specs.Lookups.{card_of, merchant_of, moment_of, number_of}
use Rattle.vault_rules.specs.Packed.{key_number}
use Rattle.vault_rules.specs.Texts.{is_pan}
use Rattle.vault_rules.specs.Rules.{has_number, is_live_multi, live_key, live_number}
use Rattle.vault_rules.specs.declared.rows.RawMerchant.{RawMerchant}
use Rattle.vault_rules.specs.declared.rows.RawCard.{RawCard}
use Rattle.vault_rules.specs.declared.rows.RawEntry.{RawEntry}
use Rattle.vault_rules.proofs.Found.{bytes_are}

-- the test holds of what is found
pub found_holds : {X : Type 0} (p : X → Bool) (xs : List X) (x : X) → find p xs ≡ Some x → p x ≡ true
found_holds p [] x is = absurd cc
found_holds p (y ∷ xs) x is =
    elim (p y) as (λ b. p y ≡ b → cond b (Some y) (find p xs) ≡ Some x → p x ≡ true) [
      | true ↦ λ holds same. sym (ap p (some_same same)) ∙ holds
      | false ↦ λ fails same. found_holds p xs x same
    ] refl is

-- a merchant that is found has the name
pub merchant_named : (merchants : List RawMerchant) (name : Bytes) (m : RawMerchant)
    → merchant_of merchants name ≡ Some m → string_bytes m.name ≡ name
merchant_named merchants name m is =
    bytes_are (string_bytes m.name) name
    (found_holds (λ m. bytes_eq (string_bytes m.name) name) merchants m is)

pub live_some : (merchants : List RawMerchant) (cards : List RawCard) (e : RawEntry) (m : RawMerchant)
    (c : RawCard) → merchant_of merchants (string_bytes e.merchant) ≡ Some m
    → option_and_then (card_of cards) e.card ≡ Some c → is_live_multi m.moment e ≡ true
    → live_key merchants cards e ≡ Some (string_bytes m.name, string_bytes c.number)
live_some merchants cards e m c found pointed live =
    ap (λ (o : Option RawMerchant). option_and_then
    (λ moment. option_map (λ number. (string_bytes e.merchant, number)) (live_number cards moment e))
    (option_map (λ (m : RawMerchant). m.moment) o)) found
    ∙ ap (λ b. option_map (λ (number : Bytes). (string_bytes e.merchant, number))
    (if b then number_of cards e else None)) live
    ∙ ap (λ (o : Option RawCard). option_map (λ (number : Bytes). (string_bytes e.merchant, number))
    (option_map (λ (c : RawCard). string_bytes c.number) o)) pointed
    ∙ (λ i. Some (sym (merchant_named merchants (string_bytes e.merchant) m found) i, string_bytes c.number))

-- the number of a live key is a card number, where the entry's is one
pub live_pan : (merchants : List RawMerchant) (cards : List RawCard) (e : RawEntry) (name number : Bytes)
    → has_number cards e ≡ true → live_key merchants cards e ≡ Some (name, number) → is_pan number ≡ true
live_pan merchants cards e name number fits is = go (moment_of merchants (string_bytes e.merchant)) is
  where
    named : Bytes → Bytes × Bytes
    named n = (string_bytes e.merchant, n)

    of_live : (b : Bool) (o : Option Bytes) → o ≡ number_of cards e
        → option_map named (if b then o else None) ≡ Some (name, number) → is_pan number ≡ true
    of_live false o at is = absurd cc
    of_live true None at is = absurd cc
    of_live true (Some n) at is =
        let key : named n ≡ (name, number) = some_same is in
        let same : n ≡ number = ap (λ (q : Bytes × Bytes). q.1) key in
        let fit : is_pan n && fits_spec (string_bytes e.token) n ≡ true =
        ap (λ o. option_map_or (λ n. is_pan n && fits_spec (string_bytes e.token) n) o true) at ∙ fits in
        ap is_pan (sym same) ∙ (and_parts (is_pan n) (fits_spec (string_bytes e.token) n) fit).0

    go : (o : Option ℤ) → option_and_then (λ moment. option_map named (live_number cards moment e)) o
        ≡ Some (name, number) → is_pan number ≡ true
    go None is = absurd cc
    go (Some moment) is = of_live (is_live_multi moment e) (number_of cards e) refl is

-- there is no key where there is no number of one
pub no_key : (o : Option (Bytes × Bytes)) → option_map key_number o ≡ None → o ≡ None
no_key None is = refl
no_key (Some key) is = absurd cc
