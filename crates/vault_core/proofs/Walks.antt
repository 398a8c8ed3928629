-- What holds of what a command on a token leaves, by the cases of its outcome.
use Rattle.std.proofs.Common.{◌≡◌, ℕ, true, Some, not, refl}
use Rattle.std.specs.Option.{option_map_or}
use Rattle.vault_core.specs.Keys.{Bytes}
use Rattle.vault_core.specs.Named.{denies}
use Rattle.vault_core.specs.Outcome.{Outcome, plain_refusal, of_token, on_token}
use Rattle.vault_core.specs.Redeem.{gift, denial, redemption, detokenize}
use Rattle.vault_core.specs.Refusals.{no_merchant, no_right, no_token, token_purged, token_revoked}
use Rattle.vault_core.specs.Refusals.{token_expired}
use Rattle.vault_core.specs.Vault.{Vault, Merchant, merchant_at, entry_at, entitled, time_at, state_of}
use Rattle.vault_core.specs.declared.command.TokenCommand.{TokenCommand}
use Rattle.vault_core.specs.declared.reply.State.TheVariants.{Live, Expired, Revoked}
use Rattle.vault_core.specs.declared.row.Entry.{Entry}
use Rattle.vault_core.specs.declared.row.EntryState.{EntryState}
use Rattle.vault_core.specs.declared.row.EntryState.TheVariants.{Kept, Purged}
use Rattle.vault_core.proofs.Branches.{by_test, by_option}

-- a command on a token is refused, or answered by the state of the token's entry
pub by_token : (P : Outcome → Type 0) (V : Vault) (t : TokenCommand)
    (refusal : Merchant → ℕ → Outcome) (answer : Merchant → Entry → EntryState → Outcome)
    → P (plain_refusal V no_merchant)
    → ((known : Merchant) (number : ℕ) → merchant_at V t.merchant ≡ Some known → denies number ≡ true
    → P (refusal known number))
    → ((known : Merchant) (entry : Entry) (state : EntryState) → merchant_at V t.merchant ≡ Some known
    → entry_at V t.merchant t.token ≡ Some entry → state_of entry (time_at known t.moment) ≡ state
    → P (answer known entry state))
    → P (on_token V t refusal answer)
by_token P V t refusal answer unknown refusing answering =
    by_option P (merchant_at V t.merchant) (λ known. of_token V t known (refusal known) (by_state known))
    (plain_refusal V no_merchant)
    (λ known is. by_test P (not (entitled V t.caller t.merchant t.right (time_at known t.moment)))
    (refusal known no_right) (found known)
    (λ _. refusing known no_right is refl)
    (λ _. by_option P (entry_at V t.merchant t.token) (by_state known) (refusal known no_token)
    (λ entry here. answering known entry (state_of entry (time_at known t.moment)) is here refl)
    (λ _. refusing known no_token is refl)))
    (λ _. unknown)
  where
    by_state : Merchant → Entry → Outcome
    by_state known entry = answer known entry (state_of entry (time_at known t.moment))

    found : Merchant → Outcome
    found known = option_map_or (by_state known) (entry_at V t.merchant t.token) (refusal known no_token)

-- a Detokenize at a merchant that is known denies the number, or gives the one of the entry
pub by_redeem : (P : Outcome → Type 0) (V : Vault) (t : TokenCommand)
    → P (plain_refusal V no_merchant)
    → ((known : Merchant) (reason : ℕ) → merchant_at V t.merchant ≡ Some known → denies reason ≡ true
    → P (denial V t.merchant t.moment known reason))
    → ((known : Merchant) (number : Bytes) → merchant_at V t.merchant ≡ Some known
    → P (gift V t.merchant t.moment known number))
    → P (detokenize V t)
by_redeem P V t unknown denying giving =
    by_token P V t (denial V t.merchant t.moment) (λ known entry. redemption V t.merchant t.moment known)
    unknown denying
    (λ known entry state is _ _. in_state known is state)
  where
    in_state : (known : Merchant) → merchant_at V t.merchant ≡ Some known → (state : EntryState)
        → P (redemption V t.merchant t.moment known state)
    in_state known is Purged = denying known token_purged is refl
    in_state known is (Kept number Revoked) = denying known token_revoked is refl
    in_state known is (Kept number Expired) = denying known token_expired is refl
    in_state known is (Kept number Live) = giving known number is
