-- The live multi-use token of a number, as that of its card.
use Rattle.std.proofs.Common.{◌≡◌, ◌∙◌, ◌&&◌, ℕ, ℤ, pos, List, [], ◌∷◌, Bool, true, false, is_eq, is_none}
use Rattle.std.proofs.Common.{is_some}
use Rattle.std.proofs.Common.{nat_lt, nat_cmp, int_cmp, Option, Some, None, option_map, option_and_then}
use Rattle.std.proofs.Common.{refl, sym}
use Rattle.std.proofs.Common.{ap, arith}
use Rattle.std.proofs.lemmas.Bool.{and_parts}
use Rattle.std.proofs.lemmas.Bool.Decides.{nat_tests}
use Rattle.std.proofs.lemmas.Int.{ints}
use Rattle.std.specs.Cmp.{int_cmp_total, tied_itself}
use Rattle.std.specs.Cmp.Lexicographic.{texts_ties}
use Rattle.std.specs.FinMap as map
use Rattle.std.specs.FinMap.{int_cmp-IsAntisymmetric}
use Rattle.std.specs.List.{list_all}
use Rattle.std.specs.Option.{option_map_or}
use Rattle.sqlite.specs.Collation.TheVariants.{Binary}
use Rattle.sqlite.specs.Ops.{binary, is_true}
use Rattle.sqlite.specs.Order.{Row, value_cmp}
use Rattle.sqlite.specs.State.{State, Shown}
use Rattle.sqlite.specs.Term.{holds}
use Rattle.sqlite.specs.declared.types.Value.TheVariants.{Null, Int, Text}
use Rattle.sqlite_sql.specs.declared.ops.BinaryOp.TheVariants.{Compare, Is}
use Rattle.sqlite_sql.specs.declared.ops.CompareOp.TheVariants.{Eq, Gt}
use Rattle.sqlite_value.proofs.OrderLemmas.{value_cmp-Int}
use Rattle.sql_tables.specs.Rows.{one_of}
use Rattle.sql_tables.specs.States.{Stands}
use Rattle.sql_tables.proofs.KeyTests.{equal_is, int_eq, number_eq, text_eq}
use Rattle.sql_tables.proofs.Reading.{shown_none, shown_one}
use Rattle.vault_schema.proofs.Newest.{behind_second, indexes_behind_second, pointing_table}
use Rattle.vault_pan.specs.CardText.{same}
use Rattle.vault_core.proofs.CurrentLemmas.{current-none, current-some, one_live}
use Rattle.vault_core.proofs.Maps.{bytes_exact, bytes_total}
use Rattle.vault_core.specs.Keys.{Bytes, bytes_cmp}
use Rattle.vault_core.specs.Numbers.{use_number}
use Rattle.vault_core.specs.Repeats.{current, is_reusable, same_use}
use Rattle.vault_core.specs.Sound.{Sound}
use Rattle.vault_core.specs.Vault.{Vault, entry_at}
use Rattle.vault_core.specs.Window.{moment_at}
use Rattle.vault_core.specs.declared.usage.Use.{Use}
use Rattle.vault_core.specs.declared.usage.Use.TheVariants.{Multi}
use Rattle.vault_tables.specs.EntryTexts.{current_is, current_tests}
use Rattle.vault_schema.specs.Values.{number_or_null}
use Rattle.vault_schema.specs.Versions.{Tables}
use Rattle.vault_schema.specs.Stands.{newest_claims}
use Rattle.vault_schema.specs.Joined.{AreJoined, joined, nothing_owed, number_of}
use Rattle.vault_schema.specs.Values.{id_or_null}
use Rattle.vault_schema.specs.Entries.{pointing_row}
use Rattle.vault_schema.specs.declared.rows.Card.{Card}
use Rattle.vault_schema.specs.declared.rows.Pointing.{Pointing}
use Rattle.vault_tables.specs.declared.entries.TheConstants.{FIND_CURRENT}
use Rattle.vault_sql.proofs.JoinedEntries.{entry_there, points_there}
use Rattle.vault_tables.specs.CardUses.{HasNoCard, IsCardOf}
use Rattle.vault_schema.specs.Schema.{newest_schema}
use Rattle.vault_tables.specs.Shown.{text_column}

-- ---- the test of a row

card_is : (o : Option ℤ) (id : ℤ)
    → is_true (binary (Compare Eq Binary) (id_or_null o) (Int id)) ≡ option_map_or
    (λ n. is_eq (int_cmp n id)) o false
unfolding binary
card_is None id = refl
card_is (Some n) id = int_eq n id

usage_is : (u : Use) → is_eq (nat_cmp (use_number u) 2) ≡ same_use u Multi
usage_is u = grind arith

revoked_is : (o : Option ℕ) → is_true (binary (Is Binary) (number_or_null o) Null) ≡ is_none o
unfolding binary value_cmp lib.Ieee.is_nan lib.Ieee.lt
revoked_is None = refl
revoked_is (Some n) = refl

later_is : (a b : ℕ) → is_true (binary (Compare Gt Binary) (Int (pos a)) (Int (pos b))) ≡ nat_lt b a
unfolding binary
later_is a b = rw value_cmp-Int (grind (arith, ints, nat_tests))

-- an entry of this merchant that points at this card and can be given again
abbrev is_good : Bytes → ℤ → ℕ → Bytes × Bytes → Pointing → Bool
is_good m id at key y =
    is_eq (bytes_cmp key.0 m)
    && (option_map_or (λ n. is_eq (int_cmp n id)) y.card false
    && (same_use y.usage Multi && (is_none y.revoked && (nat_lt at y.expires && true))))

good_hits : (m : Bytes) (id : ℤ) (at : ℕ) (n : ℤ) (q : Bytes × Bytes) (y : Pointing)
    → list_all (holds ((Text m ∷ Int id ∷ Int (pos at) ∷ []) ∷ (Int n ∷ pointing_row q y) ∷ []))
    current_tests ≡ is_good m id at q y
good_hits m id at n q y =
    rw (
      text_eq q.0 m,
      card_is y.card id,
      number_eq (use_number y.usage) 2,
      usage_is y.usage,
      revoked_is y.revoked,
      later_is y.expires at,
    ) refl

-- ---- the number of an entry's card

-- a test of what an option has holds of what it has
tested : {X : Type 0} (p : X → Bool) (o : Option X) → option_map_or p o false ≡ true
    → (x : X) × (o ≡ Some x) × (p x ≡ true)
tested p None h = absurd cc
tested p (Some x) h = (x, refl, h)

module _ (V : Vault) (t : Tables) (are : AreJoined nothing_owed t.cards t.pointing (map.get V.entries))
    (m pan : Bytes) (at : ℕ) where
  -- an entry that can be given again for a number points at the card of the number
  card_there : (q : Bytes × Bytes) (y : Pointing) → t.pointing q ≡ Some y
      → is_reusable pan at (joined t.cards y) ≡ true
      → (n : ℤ) × (d : Card) × (y.card ≡ Some n) × IsCardOf t.cards n d q.0 pan
  card_there q y is live =
      let numbered = (and_parts _ _ (and_parts _ _ live).0).1 in
      let number = tested (λ number. same number pan) (joined t.cards y).number numbered in
      go y.card refl number.0 number.1
      (bytes_exact number.0 pan (equal_is _ (sym (texts_ties number.0 pan) ∙ number.2)))
    where
      go : (o : Option ℤ) → y.card ≡ o → (number : Bytes)
          → option_and_then (number_of t.cards) o ≡ Some number
          → number ≡ pan → (n : ℤ) × (d : Card) × (y.card ≡ Some n) × IsCardOf t.cards n d q.0 pan
      go None none number has same = absurd cc
      go (Some n) some number has same =
          let own = are.owned q n (ap (option_and_then (λ (p : Pointing). p.card)) is ∙ some) in
          let shown : Some own.0.number ≡ Some number =
          sym (ap (option_map (λ (c : Card). c.number)) own.1) ∙ has in
          let its : own.0.number ≡ number = cc in
          (n, own.0, some, record { there = own.1; merchant = own.2; number = its ∙ same })

  -- where a number has no card, no entry can be given again for it
  pub none_current : HasNoCard t.cards m pan → None ≡ option_map (λ held. held.0) (current V m pan at)
  none_current no_card =
      elim (current V m pan at) as (λ o. current V m pan at ≡ o → None ≡ option_map (λ held. held.0) o) [
        | None ↦ λ e. refl
        | Some held ↦ λ e.
            let there = current-some V m pan at held e in
            let y = points_there are (m, held.0) held.1 there.0 in
            let card = card_there (m, held.0) y.0 y.1 (ap (is_reusable pan at) (sym y.2) ∙ there.1) in
            absurd (no_card card.0 card.1 card.3)
      ] refl

  module _ (id : ℤ) (c : Card) (of : IsCardOf t.cards id c m pan) where
    -- an entry that points at the card has its number
    its_number : (y : Pointing) → y.card ≡ Some id → (joined t.cards y).number ≡ Some pan
    its_number y is =
        ap (option_and_then (number_of t.cards)) is ∙ ap (option_map (λ (d : Card). d.number)) of.there
        ∙ ap (λ n. Some n) of.number

    reusable_is : (usage revoked later : Bool) (o : Option Bytes) → o ≡ Some pan
        → (usage && (revoked && (later && true))) ≡ true
        → (usage && option_map_or (λ number. same number pan) o false &&
        (is_some o && revoked && later)) ≡ true
    reusable_is usage revoked later o is all =
        let itself : same pan pan ≡ true = texts_ties pan pan ∙ ap is_eq (tied_itself bytes_total pan) in
        rw is (grind (arith, itself))

    -- it is one of the vault
    owned : (q : Bytes × Bytes) (y : Pointing) → t.pointing q ≡ Some y → is_good m id at q y ≡ true
        → (q ≡ (m, q.1)) × (entry_at V m q.1 ≡ Some (joined t.cards y))
        × (is_reusable pan at (joined t.cards y) ≡ true)
    owned q y is good =
        let parts = and_parts _ _ good in
        let rest = and_parts _ _ parts.1 in
        let same_name : q.0 ≡ m = bytes_exact q.0 m (equal_is _ parts.0) in
        let key : q ≡ (m, q.1) = λ i. (same_name i, q.1) in
        let card = tested (λ n. is_eq (int_cmp n id)) y.card rest.0 in
        let here : y.card ≡ Some id =
        card.1 ∙ ap (λ n. Some n) (int_cmp-IsAntisymmetric card.0 id (equal_is _ card.2)) in (
          key,
          ap (map.get V.entries) (sym key) ∙ entry_there are q y is,
          reusable_is (same_use y.usage Multi) (is_none y.revoked) (nat_lt at y.expires) _
              (its_number y here) rest.1,
        )

    good_is : (usage revoked later : Bool) (o : Option Bytes) (number : Bool)
        → (usage && number && (is_some o && revoked && later)) ≡ true
        → (usage && (revoked && (later && true))) ≡ true
    good_is usage revoked later o number all = grind arith

    -- and each such one of the vault points at it
    points : (token : Bytes) (y : Pointing) → t.pointing (m, token) ≡ Some y
        → is_reusable pan at (joined t.cards y) ≡ true → is_good m id at (m, token) y ≡ true
    points token y is live =
        let card = card_there (m, token) y is live in
        let one : card.0 ≡ id = are.once card.0 id card.1 c card.3.there of.there
        (card.3.merchant ∙ sym of.merchant) (card.3.number ∙ sym of.number) in
        let own : is_eq (bytes_cmp m m) ≡ true = ap is_eq (tied_itself bytes_total m) in
        let here : option_map_or (λ n. is_eq (int_cmp n id)) y.card false ≡ true =
        ap (λ o. option_map_or (λ n. is_eq (int_cmp n id)) o false) (card.2 ∙ ap (λ n. Some n) one)
        ∙ ap is_eq (tied_itself int_cmp_total id) in
        let rest = good_is (same_use y.usage Multi) (is_none y.revoked) (nat_lt at y.expires) _ _ live in
        rw (own, here) rest

    -- a token that can be given again is the one that is live
    pub shows_current : (old new : State) → Stands newest_schema (newest_claims t) old.now → Sound V
        → moment_at V m at ≡ at → (rows : List Row)
        → Shown FIND_CURRENT.now (Text m ∷ Int id ∷ Int (pos at) ∷ []) old new rows
        → rows ≡ one_of text_column (option_map (λ held. held.0) (current V m pan at))
    shows_current old new it sound now rows shown =
        elim (current V m pan at)
        as (λ o. current V m pan at ≡ o → rows ≡ one_of text_column (option_map (λ held. held.0) o)) [
          | None ↦ λ e. shown_none old new it _ _ rows shown pointing_table t.pointing (λ are. are)
              _ _ _ (current_is behind_second indexes_behind_second) (is_good m id at) (good_hits m id at)
              (λ q y is good.
              let its = owned q y is good in
              let clash = sym its.2 ∙ current-none V m pan q.1 at (joined t.cards y) e its.1 in cc)
          | Some held ↦ λ e.
              let there = current-some V m pan at held e in
              let y = points_there are (m, held.0) held.1 there.0 in
              shown_one old new it _ _ rows shown pointing_table t.pointing (λ are. are)
              _ _ _ (current_is behind_second indexes_behind_second) (is_good m id at) (good_hits m id at)
              (λ (q : Bytes × Bytes) y. text_column q.1) (λ n q y. refl) (m, held.0) y.0 y.1
              (points held.0 y.0 y.1 (ap (is_reusable pan at) (sym y.2) ∙ there.1))
              (λ q y is good.
              let its = owned q y is good in
              its.0 ∙ ap (λ token. (m, token))
              (one_live V sound m pan at now q.1 held.0 (joined t.cards y) held.1 its.1 its.2 there.0
              there.1))
        ] refl
