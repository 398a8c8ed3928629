-- Entries, as those that point at cards.
use Rattle.std.proofs.Common.{◌≡◌, ◌∙◌, ℤ, Option, Some, None, option_map, option_and_then, refl, sym, ap}
use Rattle.vault_core.proofs.Finds.{some_same}
use Rattle.vault_core.specs.Keys.{Bytes}
use Rattle.vault_core.specs.declared.row.Entry.{Entry}
use Rattle.vault_schema.specs.Joined.{AreJoined, joined, nothing_owed, number_of}
use Rattle.vault_schema.specs.declared.rows.Card.{Card}
use Rattle.vault_schema.specs.declared.rows.Pointing.{Pointing}
use Rattle.vault_tables.specs.CardUses.{numbered}

module _ {cards : ℤ → Option Card} {pointing : Bytes × Bytes → Option Pointing}
    {entries : Bytes × Bytes → Option Entry} (are : AreJoined nothing_owed cards pointing entries) where
  -- what points is an entry, with the number of its card
  pub entry_there : (key : Bytes × Bytes) (y : Pointing) → pointing key ≡ Some y
      → entries key ≡ Some (joined cards y)
  entry_there key y is = are.same key ∙ ap (option_map (joined cards)) is

  -- what is an entry points
  pub points_there : (key : Bytes × Bytes) (e : Entry) → entries key ≡ Some e
      → (y : Pointing) × (pointing key ≡ Some y) × (e ≡ joined cards y)
  points_there key e is = go (pointing key) refl (sym (are.same key) ∙ is)
    where
      go : (o : Option Pointing) → pointing key ≡ o → option_map (joined cards) o ≡ Some e
          → (y : Pointing) × (pointing key ≡ Some y) × (e ≡ joined cards y)
      go None none so = absurd cc
      go (Some y) some so = (y, some, sym (some_same so))

-- an entry with the number of its card is what is joined
pub joined_is : (cards : ℤ → Option Card) (o : Option Pointing) (found : Pointing) (card : Option ℤ)
    (e : Option Entry) → Some found ≡ o → found.card ≡ card
    → e ≡ Some (numbered (option_and_then (number_of cards) card) found) → e ≡ option_map (joined cards) o
joined_is cards o found card e is points so =
    so ∙ ap (λ c. Some (numbered (option_and_then (number_of cards) c) found)) (sym points)
    ∙ ap (option_map (joined cards)) is
