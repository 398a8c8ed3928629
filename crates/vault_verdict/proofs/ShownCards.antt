-- Cards, and the entries that point at them, as their rows show them.
use Rattle.std.proofs.Common.{◌≡◌, ℤ, pos, ◌∷◌, drop, Option, Some, None, option_map}
use Rattle.std.proofs.Common.{option_and_then, refl, sym, ap, ◌∙◌, arith}
use Rattle.std.specs.Prelude.{string_bytes}
use Rattle.sqlite.specs.Tree.{Trees}
use Rattle.sqlite.specs.declared.types.Value.TheVariants.{Int}
use Rattle.sqlite_rules.specs.Lists.{Has}
use Rattle.sql_tables.specs.Rows.{AreRowsById, AreRowsOf}
use Rattle.vault_core.specs.Keys.{Bytes}
use Rattle.vault_core.specs.declared.row.Entry.{Entry}
use Rattle.vault_verdict.proofs.InTree.{in_items, in_tree}
use Rattle.vault_verdict.proofs.Pointers.{one_number, pointing_are}
use Rattle.vault_verdict.proofs.Table.{pair_of, row_at}
use Rattle.vault_verdict.proofs.Tables as tables
use Rattle.vault_verdict.specs.ReadAs.{AreCards}
use Rattle.sql_tables.specs.Values.{int_value}
use Rattle.vault_tables.specs.CardTexts.{card_row}
use Rattle.vault_tables.specs.EntryTexts.{entry_values}
use Rattle.vault_rules.proofs.Held.{card_held}
use Rattle.vault_rules.proofs.Options.{mapped_is}
use Rattle.vault_rules.specs.Lookups.{card_of, used_by}
use Rattle.vault_rules.specs.Showing.{ShowsCard, ShowsEntry}
use Rattle.vault_rules.specs.VaultOf.{HasKeysApart, entry_key}
use Rattle.vault_rules.specs.declared.rows.RawCard.{RawCard}
use Rattle.vault_rules.specs.declared.rows.RawEntry.{RawEntry}
use Rattle.vault_rules.specs.AllRows.{Rows}
use Rattle.vault_schema.proofs.Values.{id_same}
use Rattle.vault_schema.specs.Joined.{AreJoined, joined, nothing_owed, number_of}
use Rattle.vault_schema.specs.Joined as schema
use Rattle.vault_schema.specs.Cards.{card_columns}
use Rattle.vault_schema.specs.Values.{id_or_null}
use Rattle.vault_schema.specs.Entries.{pointing_row}
use Rattle.vault_schema.specs.declared.rows.Card.{Card}
use Rattle.vault_schema.specs.declared.rows.Pointing.{Pointing}

-- a card row as it stands tells its card
record IsCardRow (x : RawCard) (id : ℤ) (c : Card) : Type 0 where
  at : x.id ≡ id
  merchant : string_bytes x.merchant ≡ c.merchant
  number : string_bytes x.number ≡ c.number
  uses : x.uses ≡ pos c.uses

card_told : (x : RawCard) (id : ℤ) (c : Card) → card_row x ≡ Int id ∷ card_columns c → IsCardRow x id c
card_told x id c e =
    record { at = grind arith; merchant = grind arith; number = grind arith; uses = grind arith }

id_shown : (o : Option ℤ) → int_value o ≡ id_or_null o
id_shown None = refl
id_shown (Some id) = refl

-- an entry row as it stands tells the card that it points at
card_in : (e : RawEntry) (key : Bytes × Bytes) (x : Pointing)
    → drop 1 (entry_values e) ≡ pointing_row key x → e.card ≡ x.card
card_in e key x is =
    let same : int_value e.card ≡ id_or_null x.card = grind arith in
    id_same e.card x.card (sym (id_shown e.card) ∙ same)

-- an entry that points at a card
points_at : (o : Option Pointing) (id : ℤ) → option_and_then (λ (p : Pointing). p.card) o ≡ Some id
    → (p : Pointing) × (o ≡ Some p) × (p.card ≡ Some id)
points_at None id h = absurd cc
points_at (Some p) id h = (p, refl, h)

module _ (db : Trees) {cards : ℤ → Option Card} {pointing : Bytes × Bytes → Option Pointing}
    {entries : Bytes × Bytes → Option Entry} (all : AreJoined nothing_owed cards pointing entries)
    (card_rows : AreRowsById card_columns (db 12) cards)
    (entry_rows : AreRowsOf pointing_row (db 14) pointing)
    (rows : Rows) (raws : AreCards db rows) (apart : HasKeysApart rows) where
  -- the row of a card
  card_at : (id : ℤ) (c : Card) → cards id ≡ Some c
      → (x : RawCard) × (card_of rows.cards id ≡ Some x) × IsCardRow x id c
  card_at id c is =
      let it = in_items card_row rows.cards raws.cards _ (card_rows.complete id c is) in
      let told = card_told it.0 id c (sym it.2) in
      (it.0, sym (ap (card_of rows.cards) told.at) ∙ card_held rows apart it.0 it.1, told)

  -- the card of a row
  card_of_row : (x : RawCard) → Has rows.cards x
      → (c : Card) × (cards x.id ≡ Some c) × IsCardRow x x.id c
  card_of_row x h =
      let it = card_rows.sound (card_row x) (in_tree card_row rows.cards raws.cards x h) in
      let told = card_told x it.0 it.1 it.2 in (
        it.1,
        ap cards told.at ∙ it.3,
        record { at = refl; merchant = told.merchant; number = told.number; uses = told.uses },
      )

  -- the entry of a row, as it points
  pub pointing_of : (e : RawEntry) → Has rows.entries e
      → (x : Pointing) × (pointing (entry_key e) ≡ Some x) × (e.card ≡ x.card)
      × (drop 1 (entry_values e) ≡ pointing_row (entry_key e) x)
  pointing_of e h =
      let it = pair_of tables.entries _ raws.entries entry_rows e h in
      (it.0, it.2, card_in e (entry_key e) it.0 it.1, it.1)

  -- the card of an entry's row is that of its number
  owned : (e : RawEntry) → Has rows.entries e → (id : ℤ) → e.card ≡ Some id
      → (c : Card) × (x : RawCard) × (cards id ≡ Some c) × (card_of rows.cards id ≡ Some x)
      × IsCardRow x id c × (c.merchant ≡ string_bytes e.merchant)
  owned e h id is =
      let p = pointing_of e h in
      let own = all.owned (entry_key e) id
      (ap (option_and_then (λ (z : Pointing). z.card)) p.1 ∙ sym p.2 ∙ is) in
      let x = card_at id own.0 own.1 in
      (own.0, x.0, own.1, x.1, x.2, own.2)

  number_seen : (e : RawEntry) → Has rows.entries e → (card : Option ℤ) → e.card ≡ card
      → option_map (λ (c : RawCard). string_bytes c.number) (option_and_then (card_of rows.cards) card)
      ≡ option_and_then (number_of cards) card
  number_seen e h None is = refl
  number_seen e h (Some id) is =
      let it = owned e h id is in
      ap (option_map (λ (c : RawCard). string_bytes c.number)) it.3 ∙ ap (λ n. Some n) it.4.number
      ∙ sym (ap (option_map (λ (c : Card). c.number)) it.2)

  pub entry_shown : (e : RawEntry) (h : Has rows.entries e)
      → ShowsEntry rows.cards e (joined cards (pointing_of e h).0)
  entry_shown e h =
      let it = pointing_of e h in
      let listed = it.3 in
      record {
        number = number_seen e h e.card refl ∙ ap (option_and_then (number_of cards)) it.2;
        card = λ id is.
            let own = owned e h id is in
            (own.1, own.3, own.4.merchant ∙ own.5);
        usage = grind arith;
        birth = grind arith;
        expires = grind arith;
        revoked = grind arith;
      }

  -- an entry of the vault has its row
  pub entry_pointing : (key : Bytes × Bytes) (entry : Entry) → entries key ≡ Some entry
      → (e : RawEntry) × Has rows.entries e × (entry_key e ≡ key)
  entry_pointing key entry is =
      let x = mapped_is (joined cards) (pointing key) entry (sym (all.same key) ∙ is) in
      (row_at tables.entries _ raws.entries entry_rows key x.0 x.1).0

  pub cards_shown : (x : RawCard) → Has rows.cards x → ShowsCard rows.entries x
  cards_shown x h =
      let c = card_of_row x h in
      let used = all.used x.id c.0 c.1 in
      let many = one_number used.1 (pointing_are rows.entries x.id apart.entries
      (λ key. schema.card_of pointing key ≡ Some x.id)
      (λ e there is.
      let p = pointing_of e there in
      ap (option_and_then (λ (z : Pointing). z.card)) p.1 ∙ sym p.2 ∙ is)
      (λ key at.
      let p = points_at (pointing key) x.id at in
      let row = row_at tables.entries _ raws.entries entry_rows key p.0 p.1 in
      (row.0.0, row.0.1, card_in row.0.0 key p.0 row.1 ∙ p.2, sym row.0.2))) in
      let uses = used.2 in
      let some = used.3 in
      let same : c.0.uses ≡ used_by rows.entries x.id = omega (arith, uses, many) in
      record { uses = c.2.uses ∙ ap pos same; used = omega (arith, same, some) }
