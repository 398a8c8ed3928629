-- The card row of an entry.
use Rattle.std.proofs.Common.{◌≡◌, ℤ, Bool, true, false, List, Option, Some, None, option_map, refl, sym}
use Rattle.std.proofs.Common.{ap, ◌∙◌}
use Rattle.std.specs.Prelude.{string_bytes, bytes_eq, option_and_then}
use Rattle.std.specs.Option.{option_map_or}
use Rattle.vault_core.specs.Keys.{Bytes}
use Rattle.vault_rules.specs.Lookups.{card_of, number_of}
use Rattle.vault_rules.specs.Rules.{has_card}
use Rattle.vault_rules.specs.Showing.{HasCard}
use Rattle.vault_rules.specs.declared.rows.RawCard.{RawCard}
use Rattle.vault_rules.specs.declared.rows.RawEntry.{RawEntry}
use Rattle.vault_rules.proofs.Found.{bytes_are, bytes_same}
use Rattle.vault_rules.proofs.Options.{tested_is}

-- the number of a card
abbrev pub number_at : List RawCard → Option ℤ → Option Bytes
number_at cards card = option_map (λ c. string_bytes c.number) (option_and_then (card_of cards) card)

module _ (cards : List RawCard) (e : RawEntry) where
  abbrev is_own : RawCard → Bool
  is_own c = bytes_eq (string_bytes c.merchant) (string_bytes e.merchant)

  abbrev is_there : ℤ → Bool
  is_there id = option_map_or is_own (card_of cards id) false

  pub card_is : has_card cards e ≡ true → HasCard cards e
  card_is h id is =
      let it = tested_is is_own (card_of cards id) (sym (ap (λ o. option_map_or is_there o true) is) ∙ h) in
      (it.0, it.1, bytes_are (string_bytes it.0.merchant) (string_bytes e.merchant) it.2)

  pub card_from : HasCard cards e → has_card cards e ≡ true
  card_from h = by_card e.card refl
    where
      by_card : (o : Option ℤ) → e.card ≡ o → option_map_or is_there o true ≡ true
      by_card None is = refl
      by_card (Some id) is =
          let it = h id is in
          ap (λ o. option_map_or is_own o false) it.1
          ∙ bytes_same (string_bytes it.0.merchant) (string_bytes e.merchant) it.2

  -- an entry that isn't purged has its card row's number
  pub number_there : HasCard cards e → (id : ℤ) → e.card ≡ Some id
      → (c : RawCard) × (card_of cards id ≡ Some c) × (number_of cards e ≡ Some (string_bytes c.number))
  number_there h id is =
      let it = h id is in
      (it.0, it.1, ap (number_at cards) is ∙ ap (option_map (λ c. string_bytes c.number)) it.1)

  -- a purged entry has none
  pub number_purged : e.card ≡ None → number_of cards e ≡ None
  number_purged is = ap (number_at cards) is
