-- What is kept of card rows says what the rows do.
use Rattle.std.proofs.Common.{◌≡◌, ◌∙◌, ◌&&◌, ◌∷◌, [], ℕ, ℤ, suc, zero, Bool, true, false, cond, List}
use Rattle.std.proofs.Common.{Option, Some, None, length, map, slice_get, option_map, refl, sym, ap}
use Rattle.std.proofs.Common.{◌<◌, arith, get_or}
use Rattle.std.specs.List.{list_all}
use Rattle.std.specs.Prelude.{bytes_eq, is_some, nat_lt, option_and_then, position, string_bytes}
use Rattle.std.specs.Prelude.{if◌then◌else◌}
use Rattle.std.specs.Option.{option_map_or}
use Rattle.std.specs.Ordering.{int_eq}
use Rattle.vault_core.proofs.Finds.{some_same}
use Rattle.vault_rules.proofs.LiveKeys.{live_some, merchant_named}
use Rattle.vault_rules.proofs.Numbers.{int_same}
use Rattle.vault_rules.proofs.Options.{mapped_is}
use Rattle.vault_rules.proofs.Places.{position_mapped, position_step}
use Rattle.vault_rules.specs.declared.card_rows.Card.{Card}
use Rattle.vault_rules.specs.HeldRows.{HoldCards, seen_card}
use Rattle.vault_rules.specs.Kept.{KeptCard, is_used, kept_card, place_of, short_text}
use Rattle.vault_rules.specs.Packed.{key_number, packed}
use Rattle.vault_rules.specs.Texts.{is_number, is_pan}
use Rattle.vault_core.specs.Keys.{Bytes}
use Rattle.vault_pan.specs.CardText.{fits as fits_spec}
use Rattle.std.proofs.lemmas.Bool.{and_parts}
use Rattle.std.specs.Char.{is_ascii_digit}
use Rattle.vault_rules.proofs.TokenLemmas.{pan_number}
use Rattle.vault_rules.specs.Lookups.{card_of, merchant_of}
use Rattle.vault_rules.specs.Rules.{has_card, has_number, is_card, is_live_multi, live_key}
use Rattle.vault_rules.specs.declared.card_rows.Cards.{Cards}
use Rattle.vault_rules.specs.declared.rows.RawCard.{RawCard}
use Rattle.vault_rules.specs.declared.rows.RawEntry.{RawEntry}
use Rattle.vault_rules.specs.declared.rows.RawMerchant.{RawMerchant}

all_mapped : {X Y : Type 0} (f : X → Y) (p : Y → Bool) (xs : List X)
    → list_all (λ x. p (f x)) xs ≡ list_all p (map f xs)
all_mapped f p [] = refl
all_mapped f p (x ∷ xs) = ap (λ b. p (f x) && b) (all_mapped f p xs)

-- whether each card row has its uses
pub all_used : (merchants : List RawMerchant) (it : Cards) (cards : List RawCard) (entries : List RawEntry)
    → HoldCards merchants it cards → list_all (λ c. is_used entries (seen_card c)) it.kept.items
    ≡ list_all (is_card merchants entries) cards
all_used merchants it cards entries held =
    all_mapped seen_card (is_used entries) it.kept.items ∙ ap (list_all (is_used entries)) held.kept
    ∙ sym (all_mapped (kept_card merchants) (is_used entries) cards)

-- the card row at the place of its id
card_at : (cards : List RawCard) (id : ℤ) (p : ℕ) → place_of cards id ≡ Some p
    → card_of cards id ≡ slice_get cards p
card_at [] id p is = absurd cc
card_at (c ∷ cards) id p is =
    elim (int_eq c.id id) as (λ b.
    cond {A = Option ℕ} b (Some 0) (option_map suc (place_of cards id)) ≡ Some p
    → cond b (Some c) (card_of cards id) ≡ slice_get (c ∷ cards) p) [
      | true ↦ λ first. ap (slice_get (c ∷ cards)) (some_same first)
      | false ↦ λ later.
          let it = mapped_is suc (place_of cards id) p later in
          card_at cards id it.0 it.1 ∙ ap (slice_get (c ∷ cards)) it.2
    ] (sym (position_step (λ d. int_eq d.id id) c cards) ∙ is)

pub no_card : (cards : List RawCard) (id : ℤ) → place_of cards id ≡ None → card_of cards id ≡ None
no_card [] id is = refl
no_card (c ∷ cards) id is =
    elim (int_eq c.id id) as (λ b. cond {A = Option ℕ} b (Some 0) (option_map suc (place_of cards id)) ≡ None
    → cond b (Some c) (card_of cards id) ≡ None) [
      | true ↦ λ first. absurd cc
      | false ↦ λ later. no_card cards id (none_mapped (place_of cards id) later)
    ] (sym (position_step (λ d. int_eq d.id id) c cards) ∙ is)
  where
    none_mapped : (o : Option ℕ) → option_map suc o ≡ None → o ≡ None
    none_mapped None e = refl
    none_mapped (Some n) e = absurd cc

mapped_at : {X Y : Type 0} (f : X → Y) (xs : List X) (p : ℕ)
    → option_map f (slice_get xs p) ≡ slice_get (map f xs) p
mapped_at f [] p = refl
mapped_at f (x ∷ xs) zero = refl
mapped_at f (x ∷ xs) (suc p) = mapped_at f xs p

module _ (merchants : List RawMerchant) (it : Cards) (cards : List RawCard)
    (held : HoldCards merchants it cards) (id : ℤ) where
  -- the first of an id that is kept stands where the first row of it does
  pub place_kept : position (λ (c : Card). int_eq c.id id) it.kept.items ≡ place_of cards id
  place_kept =
      position_mapped seen_card (λ (k : KeptCard). int_eq k.id id) it.kept.items
      ∙ ap (position (λ (k : KeptCard). int_eq k.id id)) held.kept
      ∙ sym (position_mapped (kept_card merchants) (λ (k : KeptCard). int_eq k.id id) cards)

  -- what is kept at the place of an id
  pub kept_at : (p : ℕ) → place_of cards id ≡ Some p
      → option_map seen_card (slice_get it.kept.items p) ≡ option_map (kept_card merchants) (card_of cards id)
  kept_at p is =
      mapped_at seen_card it.kept.items p ∙ ap (λ l. slice_get l p) held.kept
      ∙ sym (mapped_at (kept_card merchants) cards p)
      ∙ ap (option_map (kept_card merchants)) (sym (card_at cards id p is))

  pub kept_nowhere : place_of cards id ≡ None → None ≡ option_map (kept_card merchants) (card_of cards id)
  kept_nowhere is = ap (option_map (kept_card merchants)) (sym (no_card cards id is))

  -- their ids are those of the rows
  pub ids_are : map (λ (c : Card). c.id) it.kept.items ≡ map (λ (c : RawCard). c.id) cards
  ids_are = ids_kept it.kept.items cards held.kept
    where
      ids_kept : (xs : List Card) (rows : List RawCard) → map seen_card xs ≡ map (kept_card merchants) rows
          → map (λ (c : Card). c.id) xs ≡ map (λ (c : RawCard). c.id) rows
      ids_kept [] [] same = refl
      ids_kept [] (row ∷ rows) same = absurd cc
      ids_kept (x ∷ xs) [] same = absurd cc
      ids_kept (x ∷ xs) (row ∷ rows) same =
          let first : seen_card x ≡ kept_card merchants row = cc in
          let rest : map seen_card xs ≡ map (kept_card merchants) rows = cc in
          let one : x.id ≡ row.id = ap (λ (k : KeptCard). k.id) first in
          let more = ids_kept xs rows rest in
          (λ i. one i ∷ more i)

-- each card that is kept has a row of its id
pub row_there : (merchants : List RawMerchant) (xs : List Card) (cards : List RawCard)
    → map seen_card xs ≡ map (kept_card merchants) cards → (i : ℕ) (x : Card) → i < length xs
    → x ≡ get_or xs i x → is_some (card_of cards x.id) ≡ true
row_there merchants [] cards same i x inside at = absurd (omega (arith, inside))
row_there merchants (y ∷ xs) [] same i x inside at = absurd cc
row_there merchants (y ∷ xs) (c ∷ cards) same zero x inside at =
    let first : seen_card y ≡ kept_card merchants c = cc in
    let one : x.id ≡ c.id = ap (λ (k : Card). k.id) at ∙ ap (λ (k : KeptCard). k.id) first in
    ap (λ b. is_some (cond b (Some c) (card_of cards x.id))) (int_same c.id x.id (sym one))
row_there merchants (y ∷ xs) (c ∷ cards) same (suc i) x inside at =
    let rest : map seen_card xs ≡ map (kept_card merchants) cards = cc in
    elim (int_eq c.id x.id) as (λ b. is_some (cond b (Some c) (card_of cards x.id)) ≡ true) [
      | true ↦ refl
      | false ↦ row_there merchants xs cards rest i x (omega (arith, inside)) at
    ]

module _ (merchants : List RawMerchant) (cards : List RawCard) (e : RawEntry) where
  -- the card row of an entry, of which this is kept
  pub row_kept : (k : KeptCard)
      → Some k ≡ option_map (kept_card merchants) (option_and_then (card_of cards) e.card)
      → (id : ℤ) × (c : RawCard) × (e.card ≡ Some id) × (card_of cards id ≡ Some c)
      × (kept_card merchants c ≡ k)
  row_kept k is = go e.card refl is
    where
      go : (o : Option ℤ) → e.card ≡ o
          → Some k ≡ option_map (kept_card merchants) (option_and_then (card_of cards) o)
          → (id : ℤ) × (c : RawCard) × (e.card ≡ Some id) × (card_of cards id ≡ Some c)
          × (kept_card merchants c ≡ k)
      go None at none = absurd cc
      go (Some id) at some =
          let it = mapped_is (kept_card merchants) (card_of cards id) k (sym some) in
          (id, it.0, at, it.1, it.2)

  -- the card of an entry is of its merchant, where this merchant is the card's
  pub card_is : (k : KeptCard) (m : RawMerchant)
      → Some k ≡ option_map (kept_card merchants) (option_and_then (card_of cards) e.card)
      → k.merchant ≡ Some m → bytes_eq (string_bytes m.name) (string_bytes e.merchant) ≡ has_card cards e
  card_is k m is some =
      let row = row_kept k is in
      let named = merchant_named merchants (string_bytes row.1.merchant) m
      (ap (λ (x : KeptCard). x.merchant) row.4 ∙ some) in
      ap (λ name. bytes_eq name (string_bytes e.merchant)) named
      ∙ sym (ap (λ o. option_map_or
      (λ (c : RawCard). bytes_eq (string_bytes c.merchant) (string_bytes e.merchant)) o false) row.3)
      ∙ sym (ap (λ o. option_map_or (λ id. option_map_or
      (λ (c : RawCard). bytes_eq (string_bytes c.merchant) (string_bytes e.merchant)) (card_of cards id)
      false) o true) row.2)

-- the key of a live entry, by what is kept of its card row
pub live_kept : (merchants : List RawMerchant) (cards : List RawCard) (e : RawEntry) (m : RawMerchant)
    (k : KeptCard) → merchant_of merchants (string_bytes e.merchant) ≡ Some m
    → Some k ≡ option_map (kept_card merchants) (option_and_then (card_of cards) e.card)
    → is_live_multi m.moment e ≡ true → has_number cards e ≡ true
    → option_map key_number (live_key merchants cards e) ≡ Some (packed k.number, string_bytes m.name)
live_kept merchants cards e m k found is live fits =
    let row = row_kept merchants cards e k is in
    let raw = row.1 in
    let text = string_bytes raw.number in
    let pointed = ap (option_and_then (card_of cards)) row.2 ∙ row.3 in
    let fit : is_pan text && fits_spec (string_bytes e.token) text ≡ true =
    sym (ap (λ o. option_map_or (λ n. is_pan n && fits_spec (string_bytes e.token) n) o true)
    (ap (option_map (λ (c : RawCard). string_bytes c.number)) pointed)) ∙ fits in
    let pan = (and_parts (is_pan text) (fits_spec (string_bytes e.token) text) fit).0 in
    let whole = ap (λ (x : KeptCard). x.number) (sym row.4) ∙ short_number text (pan_number text pan) in
    ap (option_map key_number) (live_some merchants cards e m raw found pointed live)
    ∙ (λ i. Some (packed (sym whole i), string_bytes m.name))
  where
    short_number : (text : Bytes) → is_number text ≡ true → short_text text ≡ text
    short_number text is =
        let parts = and_parts (nat_lt 9 (length text) && nat_lt (length text) 20)
        (list_all is_ascii_digit text) is in
        let short = (and_parts (nat_lt 9 (length text)) (nat_lt (length text) 20) parts.0).1 in
        ap (λ b. if b then text else []) short
