-- What is made of old entries, one after the other.
use Rattle.std.proofs.Common.{◌≡◌, ◌≤◌, ◌+◌, ◌<◌, ◌++◌, ℕ, List, [], ◌∷◌, length, map, take, get_or, Option}
use Rattle.std.proofs.Common.{Some, None, option_map, refl, sym, ap, ◌∙◌}
use Rattle.std.proofs.lemmas.List.{map-append, take_all, take_more}
use Rattle.std.proofs.lemmas.List.Elements.{filter_map-append}
use Rattle.std.specs.List.{cons_option, filter_map}
use Rattle.sqlite.specs.Order.{Row}
use Rattle.vault_tables.specs.CardTexts.{card_values}
use Rattle.vault_tables.specs.declared.entries.old.OldEntry.{OldEntry}
use Rattle.vault_rules.specs.declared.rows.RawCard.{RawCard}
use Rattle.vault_verdict.specs.Made.{as_card}

-- what is made of what a walk took, at its end is made of all
pub of_all : {X Y : Type 0} (f : List X → Y) (xs : List X) (i : ℕ) (y : Y) → length xs ≤ i
    → f (take i xs) ≡ y → f xs ≡ y
of_all f xs i y last made = ap f (sym (take_all i xs last)) ∙ made

-- with one more old entry
one_more : (olders : List OldEntry) (i : ℕ) (o : OldEntry) → i < length olders → o ≡ get_or olders i o
    → filter_map as_card (take (i + 1) olders)
    ≡ filter_map as_card (take i olders) ++ cons_option (as_card o) []
one_more olders i o inside is =
    ap (filter_map as_card) (take_more olders i o inside ∙ ap (λ y. take i olders ++ y ∷ []) (sym is))
    ∙ filter_map-append as_card (take i olders) (o ∷ [])

none_after : (rows : List Row) → rows ++ [] ≡ rows
none_after [] = refl
none_after (r ∷ rows) = ap (λ l. r ∷ l) (none_after rows)

module _ (olders : List OldEntry) (i : ℕ) (o : OldEntry) (inside : i < length olders)
    (is : o ≡ get_or olders i o) (cards : List RawCard)
    (before : filter_map as_card (take i olders) ≡ map card_values cards) (given : Option RawCard)
    (made : option_map card_values given ≡ as_card o) where
  -- its card, where it has one
  pub card_more : (card : RawCard) → given ≡ Some card
      → filter_map as_card (take (i + 1) olders) ≡ map card_values (cards ++ card ∷ [])
  card_more card some =
      one_more olders i o inside is
      ∙ (λ j. before j ++ cons_option ((sym made ∙ ap (option_map card_values) some) j) [])
      ∙ sym (map-append card_values cards (card ∷ []))

  pub none_more : given ≡ None → filter_map as_card (take (i + 1) olders) ≡ map card_values cards
  none_more none =
      one_more olders i o inside is
      ∙ (λ j. before j ++ cons_option ((sym made ∙ ap (option_map card_values) none) j) [])
      ∙ none_after (map card_values cards)
