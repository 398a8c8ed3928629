-- Rows of schema 2 that were made of old entries.
use Rattle.std.proofs.Common.{◌≡◌, ℤ, pos, List, [], ◌∷◌, drop, take, map, Option, Some, None}
use Rattle.std.proofs.Common.{option_map, refl, sym, ap, subst, ◌∙◌, inl, inr, arith}
use Rattle.std.proofs.lemmas.Cmp.{tied_itself}
use Rattle.std.specs.Ordering.{int_eq}
use Rattle.std.specs.Prelude.{string_bytes}
use Rattle.sqlite.specs.Edit.{id_in}
use Rattle.sqlite.specs.Order.{Row, value_cmp}
use Rattle.sqlite.specs.Tree.{Trees, rowid}
use Rattle.sqlite.specs.declared.types.Value.TheVariants.{Int, Text}
use Rattle.sqlite_rules.proofs.ProbeLemmas.{has_mapped, mapped_has}
use Rattle.sqlite_rules.specs.Lists.{Has}
use Rattle.sqlite_value.proofs.OrderLemmas.{value_cmp_total}
use Rattle.sql_tables.specs.Rows.{IsApart}
use Rattle.vault_core.specs.Keys.{Bytes}
use Rattle.vault_verdict.proofs.InTree.{keys_by_rowid}
use Rattle.vault_verdict.proofs.Joining.{card_there}
use Rattle.vault_verdict.proofs.Pointers.{one_number, pointing_are}
use Rattle.sql_tables.specs.Values.{int_value}
use Rattle.vault_tables.specs.CardTexts.{card_values}
use Rattle.vault_tables.specs.EntryTexts.{entry_values}
use Rattle.vault_tables.specs.EntryTexts.{old_entry_values}
use Rattle.sql_tables.specs.KeptTexts.{text_bytes}
use Rattle.vault_tables.specs.declared.entries.old.OldEntry.{OldEntry}
use Rattle.sql_tables.specs.declared.text.RowText.{RowText}
use Rattle.vault_rules.proofs.Keyed.{find-some, keys_once}
use Rattle.vault_rules.proofs.Numbers.{int_same}
use Rattle.vault_rules.specs.Lookups.{card_of, number_of, used_by}
use Rattle.vault_rules.specs.Showing.{HasCard, ShowsCard}
use Rattle.vault_rules.specs.VaultOf.{AreKeysApart, entry_key}
use Rattle.vault_rules.specs.declared.rows.RawCard.{RawCard}
use Rattle.vault_rules.specs.declared.rows.RawEntry.{RawEntry}
use Rattle.vault_rules.specs.AllRows.{Rows}
use Rattle.vault_schema.specs.Joined.{AreMany}
use Rattle.vault_verdict.proofs.ApartKeys.{apart_by, has_kept, kept_apart, kept_has, same_apart}
use Rattle.vault_verdict.specs.Made.{as_card, as_entry, own_card}
use Rattle.vault_verdict.specs.ReadAs.{AreOlders}

-- the key of an old entry
abbrev pub old_key : OldEntry → Bytes × Bytes
old_key o = (text_bytes o.merchant, text_bytes o.token)

-- the columns of a key
abbrev key_in : Row → Row
key_in r = take 2 (drop 1 r)

-- a row of an entry that was made of an old one
pub record IsEntryOf (e : RawEntry) (o : OldEntry) : Type 0 where
  pub merchant : string_bytes e.merchant ≡ text_bytes o.merchant
  pub token : string_bytes e.token ≡ text_bytes o.token
  pub card : e.card ≡ own_card o
  pub usage : e.usage ≡ o.usage
  pub birth : e.birth ≡ o.birth
  pub expires : e.expires ≡ o.expires
  pub revoked : int_value e.revoked ≡ int_value o.revoked

value_same : (a b : Option ℤ) → int_value a ≡ int_value b → a ≡ b
value_same None None e = refl
value_same None (Some b) e = absurd cc
value_same (Some a) None e = absurd cc
value_same (Some a) (Some b) e = cc

entry_is : (e : RawEntry) (o : OldEntry) → entry_values e ≡ as_entry o → IsEntryOf e o
entry_is e o same = record {
  merchant = grind arith;
  token = grind arith;
  card =
      let it : int_value e.card ≡ int_value (own_card o) = grind arith in value_same e.card (own_card o) it;
  usage = grind arith;
  birth = grind arith;
  expires = grind arith;
  revoked = grind arith;
}

-- a row of a card that was made of an old entry with a number
pub record IsCardOf (c : RawCard) (o : OldEntry) : Type 0 where
  pub id : c.id ≡ o.rowid
  pub merchant : string_bytes c.merchant ≡ text_bytes o.merchant
  pub number : Some (string_bytes c.number) ≡ option_map text_bytes o.number
  pub own : own_card o ≡ Some o.rowid
  pub uses : c.uses ≡ pos 1

card_is : (c : RawCard) (o : OldEntry) → as_card o ≡ Some (card_values c) → IsCardOf c o
card_is c o same = elim o.number as (λ n. o.number ≡ n → IsCardOf c o) [
  | None ↦ λ none. absurd (let clash = rw none at same in cc)
  | Some text ↦ λ some.
      let it = rw some at same in
      record {
        id = grind (arith, it);
        merchant = grind (arith, it);
        number = rw some (grind (arith, it));
        own = rw some refl;
        uses = grind (arith, it);
      }
] refl

-- where two lists show the same rows, what is in one has its like in the other
alike_in : {A B : Type 0} (f : A → Row) (g : B → Row) (xs : List A) (ys : List B) → map f xs ≡ map g ys
    → (y : B) → Has ys y → (x : A) × Has xs x × (g y ≡ f x)
alike_in f g xs ys same y h =
    has_mapped f xs (g y) (subst (λ l. Has l (g y)) (sym same) (mapped_has g ys y h))

module _ (db : Trees) (olders : List OldEntry) (rows : Rows) (made : AreOlders db olders rows)
    (up : IsApart (map old_entry_values olders)) where
  -- no rowid comes twice
  pub rowids_apart : AreKeysApart (λ (o : OldEntry). o.rowid) olders
  rowids_apart =
      keys_by_rowid old_entry_values (λ o. o.rowid) olders up
      (λ a b h g e. ap (λ n. value_cmp (Int n) (Int b.rowid)) e ∙ tied_itself value_cmp_total (Int b.rowid))

  -- each entry row was made of an old entry, and each old entry has its row
  pub old_of : (e : RawEntry) → Has rows.entries e → (o : OldEntry) × Has olders o × IsEntryOf e o
  old_of e h =
      let it = alike_in as_entry entry_values olders rows.entries made.entries e h in
      (it.0, it.1, entry_is e it.0 it.2)

  pub row_of : (o : OldEntry) → Has olders o → (e : RawEntry) × Has rows.entries e × IsEntryOf e o
  row_of o h =
      let it = alike_in entry_values as_entry rows.entries olders (sym made.entries) o h in
      (it.0, it.1, entry_is it.0 o (sym it.2))

  -- each card row was made of an old entry
  pub old_of_card : (c : RawCard) → Has rows.cards c → (o : OldEntry) × Has olders o × IsCardOf c o
  old_of_card c h =
      let shown = subst (λ l. Has l (card_values c)) (sym made.cards)
      (mapped_has card_values rows.cards c h) in
      let it = has_kept as_card olders (card_values c) shown in
      (it.0, it.1, card_is c it.0 it.2)

  -- an id comes once
  abbrev shown_id : Row → ℤ
  shown_id r = id_in (rowid r)

  id_told : (o : OldEntry) (r : Row) → as_card o ≡ Some r → shown_id r ≡ o.rowid
  id_told o r same = elim o.number as (λ n. o.number ≡ n → shown_id r ≡ o.rowid) [
    | None ↦ λ none. absurd (let clash = rw none at same in cc)
    | Some text ↦ λ some.
        let it = rw some at same in
        let made : Row =
        Int o.rowid ∷ Text (text_bytes o.merchant) ∷ Text (text_bytes text) ∷ Int (pos 1) ∷ [] in
        let is : made ≡ r = cc in
        sym (ap shown_id is)
  ] refl

  pub ids_apart : AreKeysApart (λ (c : RawCard). c.id) rows.cards
  ids_apart =
      let kept = kept_apart as_card (λ (o : OldEntry). o.rowid) shown_id id_told olders rowids_apart in
      same_apart shown_id (λ (r : Row). r) card_values _ rows.cards (mapped_same _ ∙ made.cards) kept
    where
      mapped_same : (rs : List Row) → map (λ (r : Row). r) rs ≡ rs
      mapped_same [] = refl
      mapped_same (r ∷ rs) = ap (λ l. r ∷ l) (mapped_same rs)

  -- a key comes once
  pub entries_apart : AreKeysApart old_key olders → AreKeysApart entry_key rows.entries
  entries_apart apart =
      apart_by (λ e. key_in (entry_values e)) entry_key (λ a b e. shown a b e) rows.entries
      (same_apart key_in as_entry entry_values olders rows.entries made.entries
      (apart_by old_key (λ o. key_in (as_entry o)) (λ a b e. told a b e) olders apart))
    where
      told : (a b : OldEntry) → key_in (as_entry a) ≡ key_in (as_entry b) → old_key a ≡ old_key b
      told a b e = grind arith

      shown : (a b : RawEntry) → entry_key a ≡ entry_key b
          → key_in (entry_values a) ≡ key_in (entry_values b)
      shown a b e = λ i. Text (e i).0 ∷ Text (e i).1 ∷ []

  -- the card of an id is the first row of it
  pub card_found : (c : RawCard) → Has rows.cards c → card_of rows.cards c.id ≡ Some c
  card_found c h =
      let first =
      find-some (λ (d : RawCard). int_eq d.id c.id) rows.cards c h (int_same c.id c.id refl) in
      let there = card_there rows.cards c.id first.0 first.1 in
      first.1 ∙ ap (λ x. Some x)
      (keys_once (λ (d : RawCard). d.id) rows.cards ids_apart first.0 c there.0 h there.1)

  -- one entry points at each card
  pub cards_shown : AreKeysApart old_key olders → (c : RawCard) → Has rows.cards c
      → ShowsCard rows.entries c
  cards_shown apart c h =
      let it = old_of_card c h in
      let own = row_of it.0 it.1 in
      let key = entry_key own.0 in
      let points : (e : RawEntry) → Has rows.entries e → e.card ≡ Some c.id → entry_key e ≡ key =
      λ e there at. same_entry e there it.0 it.1 own.0 own.2 (at ∙ ap (λ n. Some n) it.2.id) in
      let back : (k : Bytes × Bytes) → k ≡ key
      → (e : RawEntry) × Has rows.entries e × (e.card ≡ Some c.id) × (k ≡ entry_key e) =
      λ k is. (own.0, own.1, own.2.card ∙ it.2.own ∙ ap (λ n. Some n) (sym it.2.id), is) in
      let many = pointing_are rows.entries c.id (entries_apart apart) (λ k. k ≡ key) points back in
      let alone : AreMany (λ (k : Bytes × Bytes). k ≡ key) 1 = record {
        these = key ∷ [];
        apart = (λ none. none, tt);
        long = refl;
        sound = λ x there. elim there [ inl is ↦ is | inr none ↦ absurd none ];
        complete = λ x is. inl is;
      } in
      let one : used_by rows.entries c.id ≡ 1 = one_number many alone in
      record { uses = it.2.uses ∙ ap pos (sym one); used = omega (arith, one) }
    where
      rowid_of : (o : OldEntry) (n : ℤ) → own_card o ≡ Some n → o.rowid ≡ n
      rowid_of o n own = elim o.number as (λ t. o.number ≡ t → o.rowid ≡ n) [
        | None ↦ λ none. absurd (let clash = rw none at own in cc)
        | Some text ↦ λ some. let it = rw some at own in cc
      ] refl

      same_entry : (e : RawEntry) → Has rows.entries e → (o : OldEntry) → Has olders o
          → (own : RawEntry) → IsEntryOf own o → e.card ≡ Some o.rowid → entry_key e ≡ entry_key own
      same_entry e h o there own is at =
          let old = old_of e h in
          let same = keys_once (λ (x : OldEntry). x.rowid) olders rowids_apart old.0 o old.1 there
          (rowid_of old.0 o.rowid (sym old.2.card ∙ at)) in
          let merchant =
          old.2.merchant ∙ ap (λ (x : OldEntry). text_bytes x.merchant) same ∙ sym is.merchant in
          let token = old.2.token ∙ ap (λ (x : OldEntry). text_bytes x.token) same ∙ sym is.token in
          λ i. (merchant i, token i)

  -- a number has its card
  pub card_of_old : (o : OldEntry) → Has olders o → (text : RowText) → o.number ≡ Some text
      → (c : RawCard) × Has rows.cards c × IsCardOf c o
  card_of_old o h text some =
      let r : Row =
      Int o.rowid ∷ Text (text_bytes o.merchant) ∷ Text (text_bytes text) ∷ Int (pos 1) ∷ [] in
      let given : as_card o ≡ Some r = rw some refl in
      let it = has_mapped card_values rows.cards r
      (subst (λ l. Has l r) made.cards (kept_has as_card olders o r h given)) in
      (it.0, it.1, card_is it.0 o (given ∙ ap (λ x. Some x) it.2))

  -- the number of an entry's card is that of the old entry
  pub number_made : (e : RawEntry) (o : OldEntry) → Has olders o → IsEntryOf e o
      → number_of rows.cards e ≡ option_map text_bytes o.number
  number_made e o h is = elim o.number
      as (λ n. o.number ≡ n → number_of rows.cards e ≡ option_map text_bytes n) [
        | None ↦ λ none.
            let at : e.card ≡ None = is.card ∙ rw none refl in
            rw at refl
        | Some text ↦ λ some.
            let c = card_of_old o h text some in
            let at : e.card ≡ Some c.0.id = is.card ∙ c.2.own ∙ ap (λ n. Some n) (sym c.2.id) in
            rw (at, card_found c.0 c.1) (c.2.number ∙ ap (option_map text_bytes) some)
      ] refl

  -- and that card is of the entry's merchant
  pub card_made : (e : RawEntry) (o : OldEntry) → Has olders o → IsEntryOf e o → HasCard rows.cards e
  card_made e o h is id at = elim o.number
      as (λ n. o.number ≡ n
      → (c : RawCard) × (card_of rows.cards id ≡ Some c)
      × (string_bytes c.merchant ≡ string_bytes e.merchant)) [
        | None ↦ λ none. absurd (
            let own : own_card o ≡ None = rw none refl in
            let clash : Some id ≡ None = sym at ∙ is.card ∙ own in
            cc)
        | Some text ↦ λ some.
            let c = card_of_old o h text some in
            let same : Some id ≡ Some c.0.id = sym at ∙ is.card ∙ c.2.own ∙ ap (λ n. Some n) (sym c.2.id) in
            let one : id ≡ c.0.id = cc in
            (c.0, ap (card_of rows.cards) one ∙ card_found c.0 c.1, c.2.merchant ∙ sym is.merchant)
      ] refl
