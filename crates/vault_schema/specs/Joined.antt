-- How cards, and entries that point at them, stand for entries with their numbers.
use Rattle.std.specs.Ordering.{eq_by_cmp, int_cmp}
use Rattle.std.specs.Prelude.{◌≡◌, ◌≤◌, ◌+◌, ℕ, ℤ, List, [], ◌∷◌, length, Option, Some, None, option_map}
use Rattle.std.specs.Prelude.{option_and_then, cond}
use Rattle.sqlite_rules.specs.Lists.{Has}
use Rattle.vault_core.specs.Keys.{Bytes}
use Rattle.vault_core.specs.declared.row.Entry.{Entry}
use Rattle.vault_schema.specs.declared.rows.Card.{Card}
use Rattle.vault_schema.specs.declared.rows.Pointing.{Pointing}

-- the number of the card with this id
abbrev pub number_of : (ℤ → Option Card) → ℤ → Option Bytes
number_of cards id = option_map (λ (c : Card). c.number) (cards id)

-- the entry, with the number of its card
abbrev pub joined : (ℤ → Option Card) → Pointing → Entry
joined cards e = record {
  number = option_and_then (number_of cards) e.card;
  usage = e.usage;
  birth = e.birth;
  expires = e.expires;
  revoked = e.revoked;
}

-- the card that the entry of a merchant and a token points at
abbrev pub card_of : (Bytes × Bytes → Option Pointing) → Bytes × Bytes → Option ℤ
card_of pointing key = option_and_then (λ (e : Pointing). e.card) (pointing key)

-- no item comes twice
abbrev pub AreApart : {X : Type 0} → List X → Type 0
AreApart [] = Unit {0}
AreApart (x ∷ xs) = (Has xs x → ⊥) × AreApart xs

-- so many things are so
pub record AreMany {X : Type 0} (Is : X → Type 0) (many : ℕ) : Type 0 where
  pub these : List X
  pub apart : AreApart these
  pub long : length these ≡ many
  pub sound : (x : X) → Has these x → Is x
  pub complete : (x : X) → Is x → Has these x

-- The entries are those that point, each with the number of its card. A card that is pointed at is there, and
-- of the entry's merchant; a merchant's number has one card; and its uses are the entries that point at it,
-- and those that are owed to it, 1 or more.
pub record AreJoined (owed : ℤ → ℕ) (cards : ℤ → Option Card) (pointing : Bytes × Bytes → Option Pointing)
    (entries : Bytes × Bytes → Option Entry) : Type 0 where
  pub same : (key : Bytes × Bytes) → entries key ≡ option_map (joined cards) (pointing key)
  pub owned : (key : Bytes × Bytes) (id : ℤ) → card_of pointing key ≡ Some id
      → (c : Card) × (cards id ≡ Some c) × (c.merchant ≡ key.0)
  pub once : (a b : ℤ) (c d : Card) → cards a ≡ Some c → cards b ≡ Some d → c.merchant ≡ d.merchant
      → c.number ≡ d.number → a ≡ b
  pub used : (id : ℤ) (c : Card) → cards id ≡ Some c
      → (many : ℕ) × AreMany (λ key. card_of pointing key ≡ Some id) many × (c.uses ≡ many + owed id)
      × (1 ≤ c.uses)

-- nothing is owed to a card
abbrev pub nothing_owed : ℤ → ℕ
nothing_owed id = 0

-- one use of this card, where there is one
abbrev pub owed_to : Option ℤ → ℤ → ℕ
owed_to None id = 0
owed_to (Some card) id = cond (eq_by_cmp int_cmp id card) 1 0
