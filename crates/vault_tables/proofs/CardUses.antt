-- What a use more and a use less of a card come to, where a card's row is put or goes.
use Rattle.std.proofs.Common.{◌≡◌, ◌≤◌, ◌<◌, ◌+◌, ◌-◌, ◌∙◌, ℕ, ℤ, pos, List, Option, Some, None, slice_get}
use Rattle.std.proofs.Common.{option_map, int_cmp, inl, inr, refl, sym, ap, subst, arith}
use Rattle.sqlite.specs.Order.{Row, column}
use Rattle.sqlite.specs.declared.types.Value.TheVariants.{Int}
use Rattle.sql_tables.specs.Rows.{one_of, put}
use Rattle.vault_core.specs.Keys.{Bytes}
use Rattle.vault_core.specs.declared.row.Entry.{Entry}
use Rattle.vault_schema.proofs.CardJoining.{added, dropped, lowered, put_id, raised}
use Rattle.vault_schema.specs.Joined.{AreJoined, nothing_owed, owed_to}
use Rattle.vault_schema.specs.Versions.{Tables}
use Rattle.vault_schema.specs.declared.rows.Card.{Card}
use Rattle.vault_tables.specs.CardUses.{HasNoCard, IsCardOf, OwesNothing, OwesUse, ShowsCard, card_made}
use Rattle.vault_tables.specs.CardUses.{card_shown, OwesNoMore, OwesNumber, uses_column}

module _ (t new : Tables) (id : ℤ) (v : Option Card)
    (is : new ≡ record t { cards = put int_cmp t.cards id v }) where
  cards_are : put int_cmp t.cards id v ≡ new.cards
  cards_are = sym (ap (λ (x : Tables). x.cards) is)

  others_are : new ≡ record t { cards = new.cards }
  others_are = is ∙ ap (λ k. record t { cards = k }) cards_are

  pub owes_nothing : ((entries : Bytes × Bytes → Option Entry)
      → AreJoined (owed_to (Some id)) t.cards t.pointing entries
      → AreJoined nothing_owed (put int_cmp t.cards id v) t.pointing entries) → OwesNothing t new id
  owes_nothing so = record {
    others = others_are;
    joined = λ entries it. subst (λ k. AreJoined nothing_owed k t.pointing entries) cards_are (so entries it);
  }

  pub owes_use : {m pan : Bytes} (c : Card) → v ≡ Some c → c.merchant ≡ m → c.number ≡ pan
      → ((entries : Bytes × Bytes → Option Entry) → AreJoined nothing_owed t.cards t.pointing entries
      → AreJoined (owed_to (Some id)) (put int_cmp t.cards id v) t.pointing entries) → OwesUse t new id m pan
  owes_use c there own same so = record {
    others = others_are;
    card = (
      c,
      record {
        there = ap (λ (k : ℤ → Option Card). k id) (sym cards_are) ∙ put_id t.cards id v ∙ there;
        merchant = own;
        number = same;
      },
    );
    owed = λ entries it. subst (λ k. AreJoined (owed_to (Some id)) k t.pointing entries) cards_are
        (so entries it);
  }

-- a card keeps others of its uses
pub less_used : (t new : Tables) (id : ℤ) (uses : ℕ) (c : Card) → t.cards id ≡ Some c → c.uses ≡ uses
    → 1 < uses
    → new ≡ record t { cards = put int_cmp t.cards id (Some (record c { uses = uses - 1 })) }
    → OwesNothing t new id
less_used t new id uses c is many some e = owes_nothing t new id _ e (λ entries it.
    lowered id it c is (uses - 1) (omega (arith, many, some)) (omega (arith, some)))

-- it was used once
pub not_used : (t new : Tables) (id : ℤ) (uses : ℕ) (c : Card) → t.cards id ≡ Some c → c.uses ≡ uses
    → uses ≤ 1
    → new ≡ record t { cards = put int_cmp t.cards id None } → OwesNothing t new id
not_used t new id uses c is many few e = owes_nothing t new id None e (λ entries it.
    let some = (it.used id c is).3 in
    dropped id it c is (omega (arith, many, few, some)))

-- a card is used again
pub more_used : (t new : Tables) (id : ℤ) (c : Card) (m pan : Bytes) → IsCardOf t.cards id c m pan
    → new ≡ record t { cards = put int_cmp t.cards id (Some (record c { uses = c.uses + 1 })) }
    → OwesUse t new id m pan
more_used t new id c m pan of e = owes_use t new id _ e (record c { uses = c.uses + 1 }) refl of.merchant
    of.number
    (λ entries it. raised it id c of.there)

-- a card is new
pub newly_used : (t new : Tables) (id : ℤ) (m pan : Bytes) → HasNoCard t.cards m pan → t.cards id ≡ None
    → new ≡ record t { cards = put int_cmp t.cards id (Some (card_made m pan)) } → OwesUse t new id m pan
newly_used t new id m pan none free e = owes_use t new id _ e (card_made m pan) refl refl refl
    (λ entries it. added it id free m pan (λ n d is own same.
    none n d (record { there = is; merchant = own; number = same })))

-- ---- rows that show a card

-- the one row that shows the uses of a card
pub uses_shown : (o : Option Card) (rows : List Row) (row : Row) (uses : ℕ) → rows ≡ one_of uses_column o
    → Some row ≡ slice_get rows 0 → column row 0 ≡ Int (pos uses)
    → (c : Card) × (o ≡ Some c) × (c.uses ≡ uses)
uses_shown None rows row uses is first at =
    let none : Some row ≡ None = first ∙ ap (λ l. slice_get l 0) is in absurd cc
uses_shown (Some c) rows row uses is first at =
    let same : row ≡ uses_column c = (let e : Some row ≡ Some (uses_column c) = first
    ∙ ap (λ l. slice_get l 0) is in cc) in
    let value : Int (pos uses) ≡ Int (pos c.uses) = sym at ∙ ap (λ r. column r 0) same in
    (c, refl, cc)

-- the one row that shows a merchant's card, or there is none
pub card_first : (rows : List Row) (cards : ℤ → Option Card) (m pan : Bytes) (row : Row)
    → ShowsCard rows cards m pan → Some row ≡ slice_get rows 0
    → (id : ℤ) × (c : Card) × IsCardOf cards id c m pan × (row ≡ card_shown id c)
card_first rows cards m pan row (inl none) first =
    let no : Some row ≡ None = first ∙ ap (λ l. slice_get l 0) none.0 in absurd cc
card_first rows cards m pan row (inr one) first =
    let e : Some row ≡ Some (card_shown one.0 one.1) = first ∙ ap (λ l. slice_get l 0) one.3 in
    (one.0, one.1, one.2, cc)

pub no_card : (rows : List Row) (cards : ℤ → Option Card) (m pan : Bytes) → ShowsCard rows cards m pan
    → None ≡ slice_get rows 0 → HasNoCard cards m pan
no_card rows cards m pan (inl none) first = none.1
no_card rows cards m pan (inr one) first =
    let no : None ≡ Some (card_shown one.0 one.1) = first ∙ ap (λ l. slice_get l 0) one.3 in absurd cc

-- the id and the uses that a card's row shows
pub id_shown : (row : Row) (n id : ℤ) (c : Card) → column row 0 ≡ Int n → row ≡ card_shown id c → n ≡ id
id_shown row n id c at is = let e : Int n ≡ Int id = sym at ∙ ap (λ r. column r 0) is in cc

pub count_shown : (row : Row) (uses : ℕ) (id : ℤ) (c : Card) → column row 1 ≡ Int (pos uses)
    → row ≡ card_shown id c → uses ≡ c.uses
count_shown row uses id c at is =
    let e : Int (pos uses) ≡ Int (pos c.uses) = sym at ∙ ap (λ r. column r 1) is in cc

-- of a number, or of none
pub owes_number : {t new : Tables} {id : ℤ} {m pan : Bytes} → OwesUse t new id m pan
    → OwesNumber t new (Some id) m (Some pan)
owes_number {new = new} {id = id} it = record {
  others = it.others;
  shown = ap (option_map (λ (c : Card). c.number)) it.card.1.there ∙ ap (λ n. Some n) it.card.1.number;
  owned = λ other same.
      let one : id ≡ other = cc in
      (it.card.0, ap new.cards (sym one) ∙ it.card.1.there, it.card.1.merchant);
  owed = it.owed;
}

pub owes_no_more : {t new : Tables} {id : ℤ} → OwesNothing t new id → OwesNoMore t new (Some id)
owes_no_more it = record { others = it.others; joined = it.joined }
