-- The cards of rows that show a sound vault.
use Rattle.std.proofs.Common.{◌≡◌, ◌<◌, ℤ, pos, ◌&&◌, Bool, true, false, cond, List, [], ◌∷◌, filter, length}
use Rattle.std.proofs.Common.{Some, inl, inr, refl, sym, ap, ◌∙◌, arith}
use Rattle.std.specs.Prelude.{string_bytes}
use Rattle.std.specs.Int.RustNames.{int_le}
use Rattle.std.specs.List.{list_all}
use Rattle.std.specs.Ordering.{int_eq}
use Rattle.std.proofs.lemmas.Bool.{and_from}
use Rattle.sqlite_rules.specs.Lists.{Has}
use Rattle.sqlite_rules.proofs.ListLemmas.{test_from}
use Rattle.vault_core.specs.Sound.{Sound}
use Rattle.vault_core.specs.Vault.{Vault}
use Rattle.vault_core.proofs.Finds.{some_same}
use Rattle.vault_rules.specs.Lookups.{is_known, used_by}
use Rattle.vault_rules.specs.Rules.{is_card, has_card}
use Rattle.vault_rules.specs.Showing.{Shows}
use Rattle.vault_rules.specs.VaultOf.{HasKeysApart}
use Rattle.vault_rules.specs.declared.rows.RawCard.{RawCard}
use Rattle.vault_rules.specs.declared.rows.RawEntry.{RawEntry}
use Rattle.vault_rules.specs.AllRows.{Rows}
use Rattle.vault_rules.proofs.Cards.{card_from}
use Rattle.vault_rules.proofs.Held.{card_held}
use Rattle.vault_rules.proofs.Numbers.{int_same, le_from}
use Rattle.vault_rules.proofs.ShownRows.{entered, known}
use Rattle.vault_rules.proofs.UsedLemmas.{points, points_is}

-- an entry that points at the card row of an id
abbrev Pointing : List RawEntry → ℤ → Type 0
Pointing entries id = (e : RawEntry) × Has entries e × (e.card ≡ Some id)

-- a card row that is used has one
pointed : (entries : List RawEntry) (id : ℤ) → 0 < used_by entries id → Pointing entries id
pointed [] id h = absurd (omega (arith, h))
pointed (e ∷ entries) id h = by_first (points id e.card) refl h (pointed entries id)
  where
    by_first : (b : Bool) → points id e.card ≡ b
        → 0 < length (cond b (e ∷ filter (λ x. points id x.card) entries)
        (filter (λ x. points id x.card) entries))
        → (0 < used_by entries id → Pointing entries id) → Pointing (e ∷ entries) id
    by_first true is some later = (e, inl refl, points_is id e.card is)
    by_first false is some later = let it = later some in (it.0, inr it.1, it.2)

module _ (rows : Rows) (V : Vault) (shows : Shows rows V) (sound : Sound V) (apart : HasKeysApart rows) where
  -- the merchant of a card row is that of an entry that points at it
  card_known : (c : RawCard) → Has rows.cards c
      → is_known rows.merchants (string_bytes c.merchant) ≡ true
  card_known c h =
      let one = pointed rows.entries c.id (shows.cards c h).used in
      let it = entered rows V shows sound one.0 one.1 in
      let own = it.shown.card c.id one.2 in
      let same : own.0 ≡ c = some_same (sym own.1 ∙ card_held rows apart c h) in
      ap (is_known rows.merchants) (ap (λ (d : RawCard). string_bytes d.merchant) (sym same) ∙ own.2)
      ∙ known rows V shows (string_bytes one.0.merchant) it.merchant it.merchant_is

  card_kept : (c : RawCard) → Has rows.cards c
      → is_card rows.merchants rows.entries c ≡ true
  card_kept c h =
      let shown = shows.cards c h in
      let used = used_by rows.entries c.id in
      and_from
      (is_known rows.merchants (string_bytes c.merchant) && int_le (pos 1) c.uses)
      (int_eq c.uses (pos used))
      (and_from (is_known rows.merchants (string_bytes c.merchant)) (int_le (pos 1) c.uses)
      (card_known c h)
      (ap (int_le (pos 1)) shown.uses ∙ le_from 1 used (omega (arith, shown.used))))
      (int_same c.uses (pos used) shown.uses)

  pub cards_kept : (list_all (is_card rows.merchants rows.entries) rows.cards
      && list_all (has_card rows.cards) rows.entries) ≡ true
  cards_kept =
      and_from (list_all (is_card rows.merchants rows.entries) rows.cards)
      (list_all (has_card rows.cards) rows.entries)
      (test_from (is_card rows.merchants rows.entries) rows.cards card_kept)
      (test_from (has_card rows.cards) rows.entries (λ e h.
      card_from rows.cards e (entered rows V shows sound e h).shown.card))
