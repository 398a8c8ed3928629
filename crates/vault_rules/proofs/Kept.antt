-- What the rules say of each row.
use Rattle.std.proofs.Common.{◌≡◌, ℕ, pos, ◌<◌, ◌≤◌, true, false, List, length, arith, subst}
use Rattle.std.specs.Prelude.{string_bytes}
use Rattle.std.specs.Int.RustNames.{int_le}
use Rattle.std.specs.List.{filter_map, list_all}
use Rattle.std.specs.Option.{option_map_or}
use Rattle.std.specs.Ordering.{int_eq}
use Rattle.std.proofs.lemmas.Bool.{and_parts}
use Rattle.sqlite_rules.specs.Lists.{Has}
use Rattle.sqlite_rules.proofs.ListLemmas.{test_has}
use Rattle.vault_core.specs.Name.{IsName}
use Rattle.vault_pan.specs.CardText.{IsToken}
use Rattle.vault_rules.specs.Lookups.{is_known, entry_of, held_by, total_of, used_by}
use Rattle.vault_rules.specs.Rules.{are_named, is_count, has_token, has_number, is_timed}
use Rattle.vault_rules.specs.Rules.{is_kept, at_moments, live_key, are_distinct, is_counted, is_record}
use Rattle.vault_rules.specs.Rules.{is_right, is_card, has_card, has_end, keeps}
use Rattle.vault_rules.specs.Showing.{HasCard}
use Rattle.vault_rules.specs.Texts.{is_name}
use Rattle.vault_rules.specs.declared.rows.RawMerchant.{RawMerchant}
use Rattle.vault_rules.specs.declared.rows.RawCount.{RawCount}
use Rattle.vault_rules.specs.declared.rows.RawCard.{RawCard}
use Rattle.vault_rules.specs.declared.rows.RawEntry.{RawEntry}
use Rattle.vault_rules.specs.declared.rows.RawRecord.{RawRecord}
use Rattle.vault_rules.specs.declared.rows.RawRight.{RawRight}
use Rattle.vault_rules.specs.AllRows.{Rows}
use Rattle.vault_rules.proofs.Cards.{card_is}
use Rattle.vault_rules.proofs.Numbers.{IsBetween, within_is, below_is, int_is, le_is}
use Rattle.vault_rules.proofs.TextLemmas.{name_is, token_is}

pub record CountsWell (merchants : List RawMerchant) (c : RawCount) : Type 0 where
  pub known : is_known merchants (string_bytes c.merchant) ≡ true
  pub kind : IsBetween 1 3 c.kind
  pub total : IsBetween 1 4611686018427387903 c.total

pub record RecordsWell (entries : List RawEntry) (r : RawRecord) : Type 0 where
  pub caller : IsName (string_bytes r.caller)
  pub request : IsBetween 1 9223372036854775807 r.request
  pub usage : option_map_or (λ (e : RawEntry). int_eq e.usage r.usage)
      (entry_of entries (string_bytes r.merchant) (string_bytes r.token)) false ≡ true

pub record CardsWell (merchants : List RawMerchant) (entries : List RawEntry) (c : RawCard) : Type 0 where
  pub known : is_known merchants (string_bytes c.merchant) ≡ true
  pub uses : c.uses ≡ pos (used_by entries c.id)
  pub used : 0 < used_by entries c.id

module _ (rows : Rows) (kept : (r : ℕ) → keeps rows r ≡ true) where
  pub few : length rows.merchants ≤ 10000
  few =
      let two : are_named rows.merchants ≡ true = kept 2 in
      let h = below_is (length rows.merchants) 10001 (and_parts _ _ two).0 in omega arith

  pub named : (m : RawMerchant) → Has rows.merchants m → IsName (string_bytes m.name)
  named m h =
      let two : are_named rows.merchants ≡ true = kept 2 in
      name_is (string_bytes m.name)
      (test_has (λ n. is_name (string_bytes n.name)) rows.merchants m (and_parts _ _ two).1 h)

  pub counts_well : (c : RawCount) → Has rows.counts c → CountsWell rows.merchants c
  counts_well c h =
      let first = and_parts _ _ (test_has (is_count rows.merchants) rows.counts c (kept 4) h) in
      let second = and_parts _ _ first.0 in
      record {
        known = second.0;
        kind = within_is 1 3 c.kind second.1;
        total = within_is 1 4611686018427387903 c.total first.1;
      }

  pub tokens : (e : RawEntry) → Has rows.entries e
      → (is_known rows.merchants (string_bytes e.merchant) ≡ true) × IsToken (string_bytes e.token)
  tokens e h =
      let parts = and_parts _ _ (test_has (has_token rows.merchants) rows.entries e (kept 5) h) in
      (parts.0, token_is (string_bytes e.token) parts.1)

  pub numbers : (e : RawEntry) → Has rows.entries e → has_number rows.cards e ≡ true
  numbers e h = test_has (has_number rows.cards) rows.entries e (kept 6) h

  pub timed : (e : RawEntry) → Has rows.entries e → at_moments rows.merchants is_timed e ≡ true
  timed e h = test_has (at_moments rows.merchants is_timed) rows.entries e (kept 7) h

  pub live_or_over : (e : RawEntry) → Has rows.entries e
      → at_moments rows.merchants is_kept e ≡ true
  live_or_over e h = test_has (at_moments rows.merchants is_kept) rows.entries e (kept 8) h

  pub distinct : are_distinct
      (filter_map (live_key rows.merchants rows.cards) rows.entries) ≡ true
  distinct = kept 9

  pub counted : (m : RawMerchant) → Has rows.merchants m
      → (total_of rows.counts (string_bytes m.name) (pos 1)
      ≡ pos (held_by rows.entries (string_bytes m.name)))
      × (held_by rows.entries (string_bytes m.name) ≤ 1000000)
  counted m h =
      let parts =
      and_parts _ _
      (test_has (is_counted rows.counts rows.entries) rows.merchants m (kept 10) h) in
      let less = below_is (held_by rows.entries (string_bytes m.name)) 1000001 parts.1 in
      (int_is _ _ parts.0, omega arith)

  pub records_well : (r : RawRecord) → Has rows.records r → RecordsWell rows.entries r
  records_well r h =
      let first = and_parts _ _ (test_has (is_record rows.entries) rows.records r (kept 11) h) in
      let second = and_parts _ _ first.0 in
      record {
        caller = name_is (string_bytes r.caller) second.0;
        request = within_is 1 9223372036854775807 r.request second.1;
        usage = first.1;
      }

  pub rights_well : (r : RawRight) → Has rows.rights r
      → IsName (string_bytes r.caller) × (is_known rows.merchants (string_bytes r.merchant) ≡ true)
      × IsBetween 1 6 r.what
  rights_well r h =
      let first = and_parts _ _ (test_has (is_right rows.merchants) rows.rights r (kept 12) h) in
      let second = and_parts _ _ first.0 in
      (name_is (string_bytes r.caller) second.0, second.1, within_is 1 6 r.what first.1)

  both_cards : (list_all (is_card rows.merchants rows.entries) rows.cards ≡ true)
      × (list_all (has_card rows.cards) rows.entries ≡ true)
  both_cards =
      and_parts (list_all (is_card rows.merchants rows.entries) rows.cards)
      (list_all (has_card rows.cards) rows.entries) (kept 13)

  pub cards_well : (c : RawCard) → Has rows.cards c
      → CardsWell rows.merchants rows.entries c
  cards_well c h =
      let first =
      and_parts _ _
      (test_has (is_card rows.merchants rows.entries) rows.cards c both_cards.0 h) in
      let second = and_parts _ _ first.0 in
      let uses = int_is c.uses (pos (used_by rows.entries c.id)) first.1 in
      record {
        known = second.0;
        uses = uses;
        used = le_is 1 (used_by rows.entries c.id) (subst (λ z. int_le (pos 1) z ≡ true) uses second.1);
      }

  pub own_card : (e : RawEntry) → Has rows.entries e → HasCard rows.cards e
  own_card e h =
      card_is rows.cards e (test_has (has_card rows.cards) rows.entries e both_cards.1 h)

  pub ended : (r : RawRight) → Has rows.rights r → has_end r ≡ true
  ended r h = test_has has_end rows.rights r (kept 15) h
