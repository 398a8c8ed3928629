-- The rules of an entry's times and number, from an entry that is sound.
use Rattle.std.proofs.Common.{◌≡◌, inl, inr, ℕ, ℤ, pos, ◌+◌, ◌&&◌, ◌||◌, true, List, Option, Some, None}
use Rattle.std.proofs.Common.{option_map, is_some, refl, sym, ap, subst, ◌∙◌, arith}
use Rattle.std.specs.Prelude.{◌+ℤ◌, string_bytes}
use Rattle.std.specs.Int.RustNames.{int_le}
use Rattle.std.specs.Option.{option_map_or}
use Rattle.std.proofs.lemmas.Bool.{and_from, or_left, or_right}
use Rattle.vault_core.specs.Keys.{Bytes}
use Rattle.vault_core.specs.Numbers.{use_number}
use Rattle.vault_core.specs.Sound.{IsNumber, IsRevocation, IsSoundEntry}
use Rattle.vault_core.specs.Vault.{Merchant}
use Rattle.vault_core.specs.declared.row.Entry.{Entry}
use Rattle.vault_core.specs.declared.usage.Use.{Use}
use Rattle.vault_core.specs.declared.usage.Use.TheVariants.{Single, Multi}
use Rattle.vault_pan.specs.CardText.{fits}
use Rattle.vault_rules.specs.Lookups.{number_of}
use Rattle.vault_rules.specs.Rules.{is_within, is_timed, is_kept, has_number}
use Rattle.vault_rules.specs.Showing.{ShowsEntry}
use Rattle.vault_rules.specs.Texts.{is_pan}
use Rattle.vault_rules.specs.declared.rows.RawCard.{RawCard}
use Rattle.vault_rules.specs.declared.rows.RawEntry.{RawEntry}
use Rattle.vault_rules.proofs.Cards.{number_purged}
use Rattle.vault_rules.proofs.Numbers.{within_from, le_from}
use Rattle.vault_rules.proofs.TextLemmas.{pan_from}

number_fits : (token : Bytes) (entry : Entry) (moment : ℕ) (o : Option Bytes)
    → IsNumber token entry moment o
    → option_map_or (λ number. is_pan number && fits token number) o true ≡ true
number_fits token entry moment None h = refl
number_fits token entry moment (Some number) h =
    and_from (is_pan number) (fits token number) (pan_from number h.0) h.1

use_within : (u : Use) (z : ℤ) → z ≡ pos (use_number u) → is_within (pos 1) (pos 2) z ≡ true
use_within Single z is = within_from 1 2 1 z is (omega arith) (omega arith)
use_within Multi z is = within_from 1 2 2 z is (omega arith) (omega arith)

revoked_within : (entry : Entry) (moment : ℕ) (o : Option ℕ) → IsRevocation entry moment o
    → option_map_or (is_within (pos entry.birth) (pos moment)) (option_map pos o) true ≡ true
revoked_within entry moment None h = refl
revoked_within entry moment (Some at) h = within_from entry.birth moment at (pos at) refl h.0 h.1

is_some-mapped : {A B : Type 0} (f : A → B) (o : Option A) → is_some o ≡ is_some (option_map f o)
is_some-mapped f None = refl
is_some-mapped f (Some x) = refl

purged_over : (token : Bytes) (entry : Entry) (moment : ℕ) → IsNumber token entry moment None
    → (is_some entry.revoked || int_le (pos entry.expires) (pos moment)) ≡ true
purged_over token entry moment (inl revoked) =
    or_left (is_some entry.revoked) (int_le (pos entry.expires) (pos moment)) revoked
purged_over token entry moment (inr over) =
    or_right (is_some entry.revoked) (int_le (pos entry.expires) (pos moment))
    (le_from entry.expires moment over)

module _ (cards : List RawCard) (e : RawEntry) (entry : Entry) (shows : ShowsEntry cards e entry)
    (merchant : Merchant) (sound : IsSoundEntry (string_bytes e.token) entry merchant) where
  pub number_kept : has_number cards e ≡ true
  number_kept =
      number_fits (string_bytes e.token) entry merchant.moment (number_of cards e)
      (subst (IsNumber (string_bytes e.token) entry merchant.moment) (sym shows.number) sound.number)

  pub times_kept : is_timed (pos merchant.moment) e ≡ true
  times_kept =
      and_from _ _ (and_from _ _ (and_from _ _ (use_within entry.usage e.usage shows.usage)
      (within_from 0 merchant.moment entry.birth e.birth shows.birth (omega arith) sound.birth))
      (ap (λ b. is_within (b +ℤ pos 1) (b +ℤ pos 3155760000) e.expires) shows.birth
      ∙ within_from (entry.birth + 1) (entry.birth + 3155760000) entry.expires e.expires shows.expires
      (omega (arith, sound.lives)) sound.life))
      ((λ i. option_map_or (is_within (shows.birth i) (pos merchant.moment)) (shows.revoked i) true)
      ∙ revoked_within entry merchant.moment entry.revoked sound.revoked)

  pub number_or_over : is_kept (pos merchant.moment) e ≡ true
  number_or_over = by_card e.card refl
    where
      by_card : (o : Option ℤ) → e.card ≡ o
          → (is_some o || is_some e.revoked || int_le e.expires (pos merchant.moment)) ≡ true
      by_card (Some id) is = refl
      by_card None is =
          ap (λ b. b || int_le e.expires (pos merchant.moment))
          (ap is_some shows.revoked ∙ sym (is_some-mapped pos entry.revoked))
          ∙ ap (λ z. is_some entry.revoked || int_le z (pos merchant.moment)) shows.expires
          ∙ purged_over (string_bytes e.token) entry merchant.moment
          (subst (IsNumber (string_bytes e.token) entry merchant.moment)
          (sym shows.number ∙ number_purged cards e is) sound.number)
