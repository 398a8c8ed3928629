-- What a Detokenize yields, case by case.
use Rattle.std.proofs.Common.{◌≡◌, ◌≢◌, ◌⊎◌, inl, inr, ℕ, ◌≤◌, ◌&&◌, Bool, true, false, cond, Option, Some}
use Rattle.std.proofs.Common.{None, IsSome, not, is_some, is_none, nat_lt, refl, sym, ap, ◌∙◌, arith}
use Rattle.std.proofs.lemmas.Bool.Decides.{nat_tests}
use Rattle.std.specs.Prelude.{option_map}
use Rattle.std.specs.Option.{option_map_or}
use Rattle.vault_core.specs.Keys.{Bytes}
use Rattle.vault_core.specs.Outcome.{Outcome, plain_refusal, of_token}
use Rattle.vault_core.specs.Redeem.{denial, redemption, detokenize}
use Rattle.vault_core.specs.Refusals.{no_merchant, no_right, no_token}
use Rattle.vault_core.specs.Vault.{Vault, Merchant, merchant_at, entry_at, entitled, time_at, is_live}
use Rattle.vault_core.specs.Vault.{kept_state, state_of}
use Rattle.vault_core.specs.Window.{moment_at, row_at, row_of}
use Rattle.vault_core.specs.declared.command.TokenCommand.{TokenCommand}
use Rattle.vault_core.specs.declared.reply.State.{State}
use Rattle.vault_core.specs.declared.reply.State.TheVariants.{Live, Expired, Revoked}
use Rattle.vault_core.specs.declared.row.Entry.{Entry}
use Rattle.vault_core.specs.declared.row.EntryState.TheVariants.{Kept, Purged}
use Rattle.vault_core.specs.declared.row.MerchantRow.{MerchantRow}
use Rattle.vault_core.proofs.Finds.{some_same}

-- a row that is shown is that of a merchant that is known
pub known_row : (V : Vault) (m : Bytes) (row : MerchantRow) → row_at V m ≡ Some row
    → (known : Merchant) × (merchant_at V m ≡ Some known) × (row ≡ row_of V m known)
known_row V m row = go (merchant_at V m)
  where
    go : (o : Option Merchant) → option_map (row_of V m) o ≡ Some row
        → (known : Merchant) × (o ≡ Some known) × (row ≡ row_of V m known)
    go None h = cc
    go (Some known) h = (known, refl, sym (some_same h))

-- the moment of a command at a merchant that is known
pub moment_known : (V : Vault) (m : Bytes) (known : Merchant) (now : ℕ) → merchant_at V m ≡ Some known
    → moment_at V m now ≡ time_at known now
moment_known V m known now is =
    ap (λ (o : Option Merchant). option_map_or (λ merchant. time_at merchant now) o now) is

-- an entry that has a number and is live is in that state
pub live-state : (entry : Entry) (at : ℕ) (number : Bytes) → entry.number ≡ Some number
    → is_live entry at ≡ true
    → state_of entry at ≡ Kept number Live
live-state entry at number has live =
    ap (λ (o : Option Bytes). option_map_or (λ x. Kept x (kept_state entry at)) o Purged) has
    ∙ ap (λ b. Kept number (cond b Live (cond (is_some entry.revoked) Revoked Expired))) live

-- a kept state is that of an entry with the number
pub kept-has : (entry : Entry) (at : ℕ) (number : Bytes) (state : State)
    → state_of entry at ≡ Kept number state
    → (entry.number ≡ Some number) × (kept_state entry at ≡ state)
kept-has entry at number state is = go entry.number is
  where
    go : (o : Option Bytes) → option_map_or (λ x. Kept x (kept_state entry at)) o Purged ≡ Kept number state
        → (o ≡ Some number) × (kept_state entry at ≡ state)
    go None h = cc
    go (Some x) h = (cc, cc)

-- an entry that is kept and isn't live is revoked or has expired
pub kept-dead : (entry : Entry) (at : ℕ) (number : Bytes) (state : State)
    → state_of entry at ≡ Kept number state
    → state ≢ Live → IsSome entry.revoked ⊎ (entry.expires ≤ at)
kept-dead entry at number state is dead =
    let kept = kept-has entry at number state is in
    by_revocation entry.number entry.revoked kept.0
    (unlive (is_live entry at) (is_some entry.revoked) kept.1)
  where
    unlive : (b r : Bool) → cond b Live (cond r Revoked Expired) ≡ state → b ≡ false
    unlive true r h = absurd (dead (sym h))
    unlive false r h = refl

    over : (a b : ℕ) → nat_lt a b ≡ false → b ≤ a
    over a b h = grind (arith, nat_tests)

    by_revocation : (o : Option Bytes) (r : Option ℕ) → o ≡ Some number
        → (is_some o && is_none r && nat_lt at entry.expires) ≡ false → IsSome r ⊎ (entry.expires ≤ at)
    by_revocation o (Some first) has h = inl refl
    by_revocation (Some x) None has h = inr (over at entry.expires h)
    by_revocation None None has h = cc

-- a Detokenize at a merchant that is known
module _ (V : Vault) (t : TokenCommand) (known : Merchant) (is : merchant_at V t.merchant ≡ Some known) where
  abbrev refusal : ℕ → Outcome
  refusal = denial V t.merchant t.moment known

  abbrev of_entry : Option Entry → Outcome
  of_entry o =
      option_map_or (λ entry. redemption V t.merchant t.moment known
      (state_of entry (time_at known t.moment))) o
      (refusal no_token)

  abbrev of_right : Bool → Outcome
  of_right b = cond (not b) (refusal no_right) (of_entry (entry_at V t.merchant t.token))

  abbrev is_allowed : Bool
  is_allowed = entitled V t.caller t.merchant t.right (time_at known t.moment)

  at_known : detokenize V t ≡ of_right is_allowed
  at_known =
      ap (λ (o : Option Merchant). option_map_or
      (λ merchant. of_token V t merchant (denial V t.merchant t.moment merchant)
      (λ entry. redemption V t.merchant t.moment merchant (state_of entry (time_at merchant t.moment))))
      o (plain_refusal V no_merchant)) is

  pub detokenize-no_right : is_allowed ≡ false → detokenize V t ≡ refusal no_right
  detokenize-no_right none = at_known ∙ ap of_right none

  pub detokenize-no_token : is_allowed ≡ true → entry_at V t.merchant t.token ≡ None
      → detokenize V t ≡ refusal no_token
  detokenize-no_token some none = at_known ∙ ap of_right some ∙ ap of_entry none

  pub detokenize-entry : is_allowed ≡ true → (entry : Entry) → entry_at V t.merchant t.token ≡ Some entry
      → detokenize V t ≡ redemption V t.merchant t.moment known (state_of entry (time_at known t.moment))
  detokenize-entry some entry here = at_known ∙ ap of_right some ∙ ap of_entry here
