-- A number is given to those alone that it is due to.
use Rattle.std.proofs.Common.{◌≡◌, ℕ, ◌==◌, Bool, true, false, cond, Some, not, is_some, refl, sym, ap, ◌∙◌}
use Rattle.std.specs.FinMap as map
use Rattle.std.specs.Option.{option_map_or}
use Rattle.vault_core.specs.Keys.{Bytes}
use Rattle.vault_core.specs.Parts.{token_command}
use Rattle.vault_core.specs.Outcome.{Outcome, plain_refusal, of_token}
use Rattle.vault_core.specs.Redeem.{denial, gift, redemption, merchant_after_denial, merchant_after_gift}
use Rattle.vault_core.specs.Refusals.{no_merchant, no_right, no_token, full, token_purged, token_revoked}
use Rattle.vault_core.specs.Refusals.{token_expired}
use Rattle.vault_core.specs.Table.{outcome, reply}
use Rattle.vault_core.specs.Vault.{Vault as Content, Merchant, merchant_at, entry_at, entitled, is_live}
use Rattle.vault_core.specs.Vault.{state_of, time_at}
use Rattle.vault_core.specs.Yields.{gives_number}
use Rattle.vault_core.specs.declared.limit.TheConstants.{MOST_COUNT}
use Rattle.vault_core.specs.declared.command.Command.{Command}
use Rattle.vault_core.specs.declared.command.Command.TheVariants.{Detokenize}
use Rattle.vault_core.specs.declared.command.TokenCommand.{TokenCommand}
use Rattle.vault_core.specs.declared.reply.Reply.{Reply}
use Rattle.vault_core.specs.declared.reply.Reply.TheVariants.{Number, Refused}
use Rattle.vault_core.specs.declared.reply.State.TheVariants.{Live, Expired, Revoked}
use Rattle.vault_core.specs.declared.right.Right.TheVariants as right
use Rattle.vault_core.specs.declared.row.Entry.{Entry}
use Rattle.vault_core.specs.declared.row.EntryState.{EntryState}
use Rattle.vault_core.specs.declared.row.EntryState.TheVariants.{Kept, Purged}
use Rattle.vault_core.proofs.Branches.{by_test, by_option}
use Rattle.vault_core.proofs.Counted.{only_redeem}
use Rattle.vault_core.proofs.Redeemed.{kept-has, moment_known}
use Rattle.vault_promise.specs.DueNumbers.{AsksForDue}

-- a command that gives no number isn't answered with one
not_given : (r : Reply) (number : Bytes) → gives_number r ≡ false → r ≡ Number number → ⊥
not_given r number quiet is =
    let yes' : true ≡ false = ap gives_number (sym is) ∙ quiet in absurd (cc)

-- a state that is live is that of a live entry
live_from : (b r : Bool) → cond b Live (cond r Revoked Expired) ≡ Live → b ≡ true
live_from true r h = refl
live_from false true h = absurd (cc)
live_from false false h = absurd (cc)

shown_true : (b : Bool) → not b ≡ false → b ≡ true
shown_true true h = refl
shown_true false h = cc

-- a Detokenize gives what is due alone
module _ (V : Content) (caller m token : Bytes) (now : ℕ) (number : Bytes) where
  abbrev Asks : Outcome → Type 0
  Asks o = o.reply ≡ Number number → AsksForDue V (Detokenize caller m token now) number

  abbrev asked : TokenCommand
  asked = token_command caller m token right.Detokenize now

  denied : (known : Merchant) (reason : ℕ) → Asks (denial V m now known reason)
  denied known reason =
      by_test Asks (known.denied == MOST_COUNT) (plain_refusal V full) (record {
        reply = Refused reason;
        after =
            record V { merchants = map.insert V.merchants m (merchant_after_denial known now) };
      })
      (λ _ e. absurd (cc)) (λ _ e. absurd (cc))

  given : (known : Merchant) (other : Bytes)
      → (other ≡ number → AsksForDue V (Detokenize caller m token now) number)
      → Asks (gift V m now known other)
  given known other due =
      by_test Asks (known.given == MOST_COUNT) (plain_refusal V full) (record {
        reply = Number other;
        after =
            record V { merchants = map.insert V.merchants m (merchant_after_gift known now) };
      })
      (λ _ e. absurd (cc)) (λ _ e. due (cc))

  redeemed : (known : Merchant) → merchant_at V m ≡ Some known
      → entitled V caller m right.Detokenize (time_at known now) ≡ true
      → (entry : Entry) → entry_at V m token ≡ Some entry
      → (state : EntryState) → state_of entry (time_at known now) ≡ state
      → Asks (redemption V m now known state)
  redeemed known is allowed entry here Purged at = denied known token_purged
  redeemed known is allowed entry here (Kept other Revoked) at = denied known token_revoked
  redeemed known is allowed entry here (Kept other Expired) at = denied known token_expired
  redeemed known is allowed entry here (Kept other Live) at =
      let kept = kept-has entry (time_at known now) other Live at in
      let when = moment_known V m known now is in
      given known other (λ same. record {
        caller = caller;
        merchant = m;
        token = token;
        now = now;
        asks = refl;
        due = record {
          right = ap (entitled V caller m right.Detokenize) when ∙ allowed;
          entry = entry;
          held = here;
          live = ap (is_live entry) when
              ∙ live_from (is_live entry (time_at known now)) (is_some entry.revoked) kept.1;
          stands = kept.0 ∙ ap Some same;
        };
      })

  detokenized : Asks (outcome V (Detokenize caller m token now))
  detokenized =
      by_option Asks (merchant_at V m)
      (λ known. of_token V asked known (denial V m now known) (by_state known)) (plain_refusal V no_merchant)
      (λ known is. by_test Asks (not (entitled V caller m right.Detokenize (time_at known now)))
      (denial V m now known no_right) (found known)
      (λ _. denied known no_right)
      (λ allowed. by_option Asks (entry_at V m token) (by_state known) (denial V m now known no_token)
      (λ entry here. redeemed known is (shown_true _ allowed) entry here
      (state_of entry (time_at known now)) refl)
      (λ _. denied known no_token)))
      (λ _ e. absurd (cc))
    where
      by_state : Merchant → Entry → Outcome
      by_state known entry = redemption V m now known (state_of entry (time_at known now))

      found : Merchant → Outcome
      found known = option_map_or (by_state known) (entry_at V m token) (denial V m now known no_token)

-- each command
pub only_due : (V : Content) (c : Command) (number : Bytes) → reply V c ≡ Number number
    → AsksForDue V c number
only_due V (Detokenize caller m token now) number is = detokenized V caller m token now number is
only_due V c number is = absurd (not_given _ number (only_redeem V c refl) is)
