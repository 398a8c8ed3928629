-- What the rules of an entry's times and number say.
use Rattle.std.proofs.Common.{◌≡◌, inl, inr, ℕ, ℤ, pos, ◌+◌, ◌&&◌, ◌||◌, true, List, Option, Some, None}
use Rattle.std.proofs.Common.{option_map, is_some, refl, sym, ap, subst, ◌∙◌, arith}
use Rattle.std.specs.Prelude.{◌+ℤ◌, string_bytes}
use Rattle.std.specs.Int.RustNames.{int_le}
use Rattle.std.specs.Option.{option_map_or}
use Rattle.std.proofs.lemmas.Bool.{and_parts, or_cases}
use Rattle.vault_core.specs.Keys.{Bytes}
use Rattle.vault_core.specs.Sound.{IsNumber, IsRevocation, IsSoundEntry}
use Rattle.vault_core.specs.Vault.{Merchant}
use Rattle.vault_core.specs.declared.row.Entry.{Entry}
use Rattle.vault_pan.specs.CardText.{IsToken, fits}
use Rattle.vault_rules.specs.Codes.{natural}
use Rattle.vault_rules.specs.Lookups.{number_of}
use Rattle.vault_rules.specs.Rules.{is_within, is_timed, is_kept, has_number}
use Rattle.vault_rules.specs.Showing.{HasCard}
use Rattle.vault_rules.specs.Texts.{is_pan}
use Rattle.vault_rules.specs.VaultOf.{entry_value}
use Rattle.vault_rules.specs.declared.rows.RawCard.{RawCard}
use Rattle.vault_rules.specs.declared.rows.RawEntry.{RawEntry}
use Rattle.vault_rules.proofs.Cards.{number_there, number_purged}
use Rattle.vault_rules.proofs.Numbers.{IsBetween, within_is, le_is}
use Rattle.vault_rules.proofs.TextLemmas.{pan_is}

-- the times of an entry of a merchant with this moment
pub record IsTimely (moment : ℕ) (e : RawEntry) : Type 0 where
  pub usage : IsBetween 1 2 e.usage
  pub birth : IsBetween 0 moment e.birth
  pub expires : IsBetween (natural e.birth + 1) (natural e.birth + 3155760000) e.expires
  pub revoked : option_map_or (is_within (pos (natural e.birth)) (pos moment)) e.revoked true ≡ true

pub timely : (moment : ℕ) (e : RawEntry) → is_timed (pos moment) e ≡ true → IsTimely moment e
timely moment e h =
    let first = and_parts _ _ h in
    let second = and_parts _ _ first.0 in
    let third = and_parts _ _ second.0 in
    let born = within_is 0 moment e.birth third.1 in
    record {
      usage = within_is 1 2 e.usage third.0;
      birth = born;
      expires = within_is (natural e.birth + 1) (natural e.birth + 3155760000) e.expires
          (subst (λ b. is_within (b +ℤ pos 1) (b +ℤ pos 3155760000) e.expires ≡ true) born.is second.1);
      revoked = subst (λ b. option_map_or (is_within b (pos moment)) e.revoked true ≡ true) born.is first.1;
    }

revocation : (moment birth : ℕ) (entry : Entry) → entry.birth ≡ birth → (o : Option ℤ)
    → option_map_or (is_within (pos birth) (pos moment)) o true ≡ true
    → IsRevocation entry moment (option_map natural o)
revocation moment birth entry is None h = tt
revocation moment birth entry is (Some at) h =
    let it = within_is birth moment at h in
    (omega (arith, it.low_is), it.high_is)

-- a number is a card number that fits its token
number_fine : (token : Bytes) (entry : Entry) (moment : ℕ) (number : Bytes) (o : Option Bytes)
    → o ≡ Some number
    → option_map_or (λ number. is_pan number && fits token number) o true ≡ true
    → IsNumber token entry moment o
number_fine token entry moment number None is fit = cc
number_fine token entry moment number (Some pan) is fit =
    let parts = and_parts (is_pan pan) (fits token pan) fit in
    (pan_is pan parts.0, parts.1)

-- a purged entry is revoked or has expired
purged_fine : (token : Bytes) (moment : ℕ) (entry : Entry) (expires : ℤ) → expires ≡ pos entry.expires
    → (revoked : Option ℤ) → option_map natural revoked ≡ entry.revoked
    → (is_some revoked || int_le expires (pos moment)) ≡ true
    → IsNumber token entry moment None
purged_fine token moment entry expires is revoked same kept =
    elim (or_cases (is_some revoked) (int_le expires (pos moment)) kept) [
      | inl there ↦ inl (ap is_some (sym same) ∙ mapped revoked there)
      | inr over ↦ inr (le_is entry.expires moment (subst (λ x. int_le x (pos moment) ≡ true) is over))
    ]
  where
    mapped : (o : Option ℤ) → is_some o ≡ true → is_some (option_map natural o) ≡ true
    mapped None h = h
    mapped (Some x) h = refl

number_sound : (cards : List RawCard) (e : RawEntry) (moment : ℕ) → e.expires ≡ pos (natural e.expires)
    → has_number cards e ≡ true → HasCard cards e → is_kept (pos moment) e ≡ true
    → IsNumber (string_bytes e.token) (entry_value cards e) moment (number_of cards e)
number_sound cards e moment is fit own kept = by_card e.card refl
  where
    by_card : (o : Option ℤ) → e.card ≡ o
        → IsNumber (string_bytes e.token) (entry_value cards e) moment (number_of cards e)
    by_card None none =
        subst (IsNumber (string_bytes e.token) (entry_value cards e) moment)
        (sym (number_purged cards e none))
        (purged_fine (string_bytes e.token) moment (entry_value cards e) e.expires is e.revoked refl
        (sym (ap (λ o. is_some o || is_some e.revoked || int_le e.expires (pos moment)) none) ∙ kept))
    by_card (Some id) some =
        let it = number_there cards e own id some in
        number_fine (string_bytes e.token) (entry_value cards e) moment (string_bytes it.0.number)
        (number_of cards e) it.2 fit

pub entry_sound : (cards : List RawCard) (e : RawEntry) (merchant : Merchant) → IsToken (string_bytes e.token)
    → has_number cards e ≡ true → HasCard cards e
    → is_timed (pos merchant.moment) e ≡ true → is_kept (pos merchant.moment) e ≡ true
    → IsSoundEntry (string_bytes e.token) (entry_value cards e) merchant
entry_sound cards e merchant fails fit own timed kept =
    let times = timely merchant.moment e timed in
    record {
      token_fails = fails;
      number = number_sound cards e merchant.moment times.expires.is fit own kept;
      birth = times.birth.high_is;
      lives = omega (arith, times.expires.low_is);
      life = omega (arith, times.expires.high_is);
      revoked =
          revocation merchant.moment (natural e.birth) (entry_value cards e) refl e.revoked times.revoked;
    }
