-- Rows that show their vault: their cards, and the entries that point at them, stand for its entries.
use Rattle.std.proofs.Common.{◌≡◌, ◌+◌, ◌≤◌, ℕ, ℤ, ◌&&◌, List, Option, Some, None, option_map}
use Rattle.std.proofs.Common.{option_and_then, refl, sym, ap, ◌∙◌, arith}
use Rattle.std.proofs.lemmas.Bool.{and_from}
use Rattle.std.specs.FinMap as finite
use Rattle.std.specs.Prelude.{bytes_eq, string_bytes}
use Rattle.sqlite_rules.proofs.ListLemmas.{has_found}
use Rattle.sqlite_rules.specs.Lists.{Has}
use Rattle.std.specs.Ordering.{int_eq}
use Rattle.vault_core.specs.Keys.{Bytes}
use Rattle.vault_verdict.proofs.Pointers.{pointing_are}
use Rattle.vault_rules.specs.Codes.{natural, use_of}
use Rattle.vault_rules.proofs.Found.{bytes_same, entry_is}
use Rattle.vault_rules.proofs.FoundRows.{entry_found}
use Rattle.vault_rules.proofs.Keyed.{find-some, keys_once}
use Rattle.vault_rules.proofs.Numbers.{int_is}
use Rattle.vault_rules.proofs.Options.{mapped_is}
use Rattle.vault_rules.specs.Lookups.{card_of, entry_of, used_by}
use Rattle.vault_rules.specs.Showing.{Shows}
use Rattle.vault_rules.specs.VaultOf.{AreKeysApart, HasKeysApart, card_key, entry_key, entry_value}
use Rattle.vault_rules.specs.VaultOf.{vault_of}
use Rattle.vault_rules.specs.declared.rows.RawCard.{RawCard}
use Rattle.vault_rules.specs.declared.rows.RawEntry.{RawEntry}
use Rattle.vault_rules.specs.AllRows.{Rows}
use Rattle.vault_schema.specs.Joined.{AreJoined, AreMany, joined, nothing_owed, number_of}
use Rattle.vault_schema.specs.Joined as schema
use Rattle.vault_schema.specs.declared.rows.Card.{Card}
use Rattle.vault_schema.specs.declared.rows.Pointing.{Pointing}

-- what rows say of a card, and of an entry that points at one
abbrev pub card_value : RawCard → Card
card_value c =
    record { merchant = string_bytes c.merchant; number = string_bytes c.number; uses = natural c.uses }

abbrev pub pointing_value : RawEntry → Pointing
pointing_value e = record {
  card = e.card;
  usage = use_of e.usage;
  birth = natural e.birth;
  expires = natural e.expires;
  revoked = option_map natural e.revoked;
}

-- what they have at an id, and at a merchant and a token
abbrev pub cards_in : List RawCard → ℤ → Option Card
cards_in cards id = option_map card_value (card_of cards id)

abbrev pub pointing_in : List RawEntry → Bytes × Bytes → Option Pointing
pointing_in entries key = option_map pointing_value (entry_of entries key.0 key.1)

-- the card row of an id has this id
pub card_there : (cards : List RawCard) (id : ℤ) (c : RawCard) → card_of cards id ≡ Some c
    → Has cards c × (c.id ≡ id)
card_there cards id c is =
    let it = has_found (λ (d : RawCard). int_eq d.id id) cards c is in
    (it.0, int_is c.id id it.1)

-- an entry row is the one of its merchant and token
pub entry_first : (entries : List RawEntry) → AreKeysApart entry_key entries → (e : RawEntry) → Has entries e
    → entry_of entries (string_bytes e.merchant) (string_bytes e.token) ≡ Some e
entry_first entries apart e h =
    let m = string_bytes e.merchant in
    let token = string_bytes e.token in
    let first =
    find-some (λ x. bytes_eq (string_bytes x.merchant) m && bytes_eq (string_bytes x.token) token) entries e h
    (and_from _ _ (bytes_same m m refl) (bytes_same token token refl)) in
    let row = entry_found entries m token first.0 first.1 in
    first.1 ∙ ap (λ x. Some x) (keys_once entry_key entries apart first.0 e row.there h
    (λ i. (row.merchant_is i, row.token_is i)))

number_shown : (o : Option RawCard)
    → option_map (λ (c : Card). c.number) (option_map card_value o)
    ≡ option_map (λ (c : RawCard). string_bytes c.number) o
number_shown None = refl
number_shown (Some c) = refl

-- the number of an entry's card is that of its card row
pub number_same : (cards : List RawCard) (card : Option ℤ)
    → option_and_then (number_of (cards_in cards)) card
    ≡ option_map (λ (c : RawCard). string_bytes c.number) (option_and_then (card_of cards) card)
number_same cards None = refl
number_same cards (Some id) = number_shown (card_of cards id)

value_same : (cards : List RawCard) (o : Option RawEntry)
    → option_map (entry_value cards) o
    ≡ option_map (joined (cards_in cards)) (option_map pointing_value o)
value_same cards None = refl
value_same cards (Some e) = λ i. Some (record {
  number = sym (number_same cards e.card) i;
  usage = use_of e.usage;
  birth = natural e.birth;
  expires = natural e.expires;
  revoked = option_map natural e.revoked;
})

-- an entry that points at a card has a row that does
points_at : (o : Option RawEntry) (id : ℤ)
    → option_and_then (λ (p : Pointing). p.card) (option_map pointing_value o) ≡ Some id
    → (e : RawEntry) × (o ≡ Some e) × (e.card ≡ Some id)
points_at None id h = absurd cc
points_at (Some e) id h = (e, refl, h)

module _ (rows : Rows) (apart : HasKeysApart rows) (shows : Shows rows (vault_of rows))
    (numbers : AreKeysApart card_key rows.cards) where
  abbrev cards : ℤ → Option Card
  cards = cards_in rows.cards

  abbrev pointing : Bytes × Bytes → Option Pointing
  pointing = pointing_in rows.entries

  -- the row of an entry that points at a card
  pointing_row : (key : Bytes × Bytes) (id : ℤ) → schema.card_of pointing key ≡ Some id
      → (e : RawEntry) × Has rows.entries e × (e.card ≡ Some id) × (key ≡ entry_key e)
  pointing_row key id at =
      let it = points_at (entry_of rows.entries key.0 key.1) id at in
      let row = entry_found rows.entries key.0 key.1 it.0 it.1 in
      (it.0, row.there, it.2, λ i. (sym row.merchant_is i, sym row.token_is i))

  pointing_back : (id : ℤ) (e : RawEntry) → Has rows.entries e → e.card ≡ Some id
      → schema.card_of pointing (entry_key e) ≡ Some id
  pointing_back id e h card =
      ap (λ o. option_and_then (λ (p : Pointing). p.card) (option_map pointing_value o))
      (entry_first rows.entries apart.entries e h) ∙ card

  -- the one card of a number of a merchant
  once : (a b : ℤ) (c d : Card) → cards a ≡ Some c → cards b ≡ Some d → c.merchant ≡ d.merchant
      → c.number ≡ d.number → a ≡ b
  once a b c d is and merchant number =
      let x = mapped_is card_value (card_of rows.cards a) c is in
      let y = mapped_is card_value (card_of rows.cards b) d and in
      let first = card_there rows.cards a x.0 x.1 in
      let second = card_there rows.cards b y.0 y.1 in
      let own = ap (λ (z : Card). z.merchant) x.2 ∙ merchant ∙ sym (ap (λ (z : Card). z.merchant) y.2) in
      let digits = ap (λ (z : Card). z.number) x.2 ∙ number ∙ sym (ap (λ (z : Card). z.number) y.2) in
      let same = keys_once card_key rows.cards numbers x.0 y.0 first.0 second.0
      (λ i. (own i, digits i)) in
      sym first.1 ∙ ap (λ (z : RawCard). z.id) same ∙ second.1

  used : (id : ℤ) (c : Card) → cards id ≡ Some c
      → (many : ℕ) × AreMany (λ key. schema.card_of pointing key ≡ Some id) many × (c.uses ≡ many + 0)
      × (1 ≤ c.uses)
  used id c is =
      let x = mapped_is card_value (card_of rows.cards id) c is in
      let there = card_there rows.cards id x.0 x.1 in
      let counted = shows.cards x.0 there.0 in
      let many = used_by rows.entries id in
      let same : used_by rows.entries x.0.id ≡ many = ap (used_by rows.entries) there.1 in
      let uses : c.uses ≡ used_by rows.entries x.0.id =
      sym (ap (λ (z : Card). z.uses) x.2) ∙ ap natural counted.uses in
      let some = counted.used in (
        many,
        pointing_are rows.entries id apart.entries (λ key. schema.card_of pointing key ≡ Some id)
            (pointing_back id) (λ key at. pointing_row key id at),
        omega (arith, uses, same),
        omega (arith, uses, some),
      )

  pub rows_joined : AreJoined nothing_owed cards pointing (finite.get (vault_of rows).entries)
  rows_joined = record {
    same = λ key. entry_is rows key.0 key.1
        ∙ value_same rows.cards (entry_of rows.entries key.0 key.1);
    owned = λ key id at.
        let e = pointing_row key id at in
        let own = (shows.entries e.0 e.1).2.card id e.2 in (
          card_value own.0,
          ap (option_map card_value) own.1,
          own.2 ∙ sym (ap (λ (k : Bytes × Bytes). k.0) e.3),
        );
    once = once;
    used = used;
  }
