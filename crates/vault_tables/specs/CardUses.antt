-- What is shown and made of cards.
use Rattle.std.specs.Ordering.{int_cmp}
use Rattle.std.specs.Prelude.{◌≡◌, ◌⊎◌, ◌+◌, ℕ, ℤ, pos, List, [], ◌∷◌, Option, Some, None, option_and_then}
use Rattle.sqlite.specs.Order.{Row}
use Rattle.sqlite.specs.declared.types.Value.TheVariants.{Int}
use Rattle.sql_tables.specs.Rows.{put}
use Rattle.vault_core.specs.Keys.{Bytes, entry_cmp}
use Rattle.vault_core.specs.declared.row.Entry.{Entry}
use Rattle.vault_schema.specs.Joined.{AreJoined, nothing_owed, number_of, owed_to}
use Rattle.vault_schema.specs.Versions.{Tables}
use Rattle.vault_schema.specs.declared.rows.Card.{Card}
use Rattle.vault_schema.specs.declared.rows.Pointing.{Pointing}

-- the card with this id is that of a merchant's number
pub record IsCardOf (cards : ℤ → Option Card) (id : ℤ) (c : Card) (m pan : Bytes) : Type 0 where
  pub there : cards id ≡ Some c
  pub merchant : c.merchant ≡ m
  pub number : c.number ≡ pan

-- no card is that of a merchant's number
abbrev pub HasNoCard : (ℤ → Option Card) → Bytes → Bytes → Type 0
HasNoCard cards m number = (id : ℤ) (c : Card) → IsCardOf cards id c m number → ⊥

-- the id and the uses of a card
abbrev pub card_shown : ℤ → Card → Row
card_shown id c = Int id ∷ Int (pos c.uses) ∷ []

-- the tables where a card with this id, which was this one, has so many uses
abbrev pub with_uses : Tables → ℤ → Card → ℕ → Tables
with_uses t id c uses = record t { cards = put int_cmp t.cards id (Some (record c { uses = uses })) }

-- the row shows the id and the uses of a card that is there
abbrev pub ShowsUses : Row → Tables → Type 0
ShowsUses row t = (id : ℤ) × (c : Card) × (t.cards id ≡ Some c) × (row ≡ card_shown id c)

-- the card that the row shows is the one with this id, and was used once more
abbrev pub IsUsedAgain : Row → ℤ → Tables → Tables → Type 0
IsUsedAgain row it t new =
    (id : ℤ) (c : Card) → t.cards id ≡ Some c → row ≡ card_shown id c
    → (it ≡ id) × (new ≡ with_uses t id c (c.uses + 1))

-- a row of the uses of a card
abbrev pub uses_column : Card → Row
uses_column c = Int (pos c.uses) ∷ []

-- the rows are the one card of a merchant's number, or there is none
abbrev pub ShowsCard : List Row → (ℤ → Option Card) → Bytes → Bytes → Type 0
ShowsCard rows cards m number =
    (rows ≡ []) × HasNoCard cards m number
    ⊎ ((id : ℤ) × (c : Card) × IsCardOf cards id c m number × (rows ≡ card_shown id c ∷ []))

-- a new card, used once
abbrev pub card_made : Bytes → Bytes → Card
card_made m number = record { merchant = m; number = number; uses = 1 }

-- the card with this id came, which wasn't there
abbrev pub IsAdded : Tables → Tables → ℤ → Bytes → Bytes → Type 0
IsAdded t new id m number =
    (t.cards id ≡ None) × (new ≡ record t { cards = put int_cmp t.cards id (Some (card_made m number)) })

-- with an id, the card with this id came, and the number had none; else nothing changed
abbrev pub IsAddedOnce : Tables → Tables → Option ℤ → Bytes → Bytes → Type 0
IsAddedOnce t new (Some id) m number = HasNoCard t.cards m number × IsAdded t new id m number
IsAddedOnce t new None m number = new ≡ t

-- the card with this id went
abbrev pub IsGone : Tables → Tables → ℤ → Type 0
IsGone t new id = new ≡ record t { cards = put int_cmp t.cards id None }

-- the tables with an entry at a merchant's token
abbrev pub with_pointing : Tables → Bytes × Bytes → Pointing → Tables
with_pointing t key entry = record t { pointing = put entry_cmp t.pointing key (Some entry) }

-- one use more of a merchant's card with this id, which is owed
pub record OwesUse (t new : Tables) (id : ℤ) (m pan : Bytes) : Type 0 where
  pub others : new ≡ record t { cards = new.cards }
  pub card : (c : Card) × IsCardOf new.cards id c m pan
  pub owed : (entries : Bytes × Bytes → Option Entry) → AreJoined nothing_owed t.cards t.pointing entries
      → AreJoined (owed_to (Some id)) new.cards t.pointing entries

-- one use less of the card with this id, which was owed
pub record OwesNothing (t new : Tables) (id : ℤ) : Type 0 where
  pub others : new ≡ record t { cards = new.cards }
  pub joined : (entries : Bytes × Bytes → Option Entry)
      → AreJoined (owed_to (Some id)) t.cards t.pointing entries
      → AreJoined nothing_owed new.cards t.pointing entries

-- the card of a number, where there is one, is used once more, which is owed
pub record OwesNumber (t new : Tables) (card : Option ℤ) (m : Bytes) (number : Option Bytes) : Type 0 where
  pub others : new ≡ record t { cards = new.cards }
  pub shown : option_and_then (number_of new.cards) card ≡ number
  pub owned : (id : ℤ) → card ≡ Some id → (c : Card) × (new.cards id ≡ Some c) × (c.merchant ≡ m)
  pub owed : (entries : Bytes × Bytes → Option Entry) → AreJoined nothing_owed t.cards t.pointing entries
      → AreJoined (owed_to card) new.cards t.pointing entries

-- the card, where there is one, is used once less, which was owed
pub record OwesNoMore (t new : Tables) (card : Option ℤ) : Type 0 where
  pub others : new ≡ record t { cards = new.cards }
  pub joined : (entries : Bytes × Bytes → Option Entry)
      → AreJoined (owed_to card) t.cards t.pointing entries
      → AreJoined nothing_owed new.cards t.pointing entries

-- an entry that points at a card in its number's place
abbrev pub pointed_at : Option ℤ → Entry → Pointing
pointed_at card e =
    record { card = card; usage = e.usage; birth = e.birth; expires = e.expires; revoked = e.revoked }

-- an entry with a number in its card's place
abbrev pub numbered : Option Bytes → Pointing → Entry
numbered number e =
    record { number = number; usage = e.usage; birth = e.birth; expires = e.expires; revoked = e.revoked }
