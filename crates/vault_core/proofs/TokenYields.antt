-- A live token yields its number to a caller with the right.
use Rattle.std.proofs.Common.{◌≡◌, ℕ, ◌<◌, ◌==◌, true, false, cond, Option, Some, None, is_some, refl, sym}
use Rattle.std.proofs.Common.{ap}
use Rattle.std.proofs.Common.{◌∙◌, subst, arith}
use Rattle.std.specs.FinMap as map
use Rattle.std.specs.Option.{option_map_or}
use Rattle.std.specs.Cmp.{first_so}
use Rattle.std.proofs.lemmas.Bool.Decides.{nat_tests}
use Rattle.vault_core.specs.Keys.{Bytes}
use Rattle.vault_core.specs.Parts.{token_command}
use Rattle.vault_core.specs.Outcome.{Outcome, plain_refusal}
use Rattle.vault_core.specs.Redeem.{gift, merchant_after_gift, redemption}
use Rattle.vault_core.specs.Refusals.{full}
use Rattle.vault_core.specs.Runs.{run}
use Rattle.vault_core.specs.Vault.{Vault, Merchant, entitled, time_at, is_live}
use Rattle.vault_core.specs.Yields.{LiveTokensYield}
use Rattle.vault_core.specs.declared.limit.TheConstants.{MOST_COUNT}
use Rattle.vault_core.specs.declared.reply.Reply.TheVariants.{Number}
use Rattle.vault_core.specs.declared.right.Right.TheVariants.{Detokenize}
use Rattle.vault_core.proofs.Redeemed.{detokenize-entry, live-state, moment_known}
use Rattle.vault_core.proofs.StaysSound.{stays_sound}

there : {X : Type 0} (o : Option X) → is_some o ≡ true → (x : X) × (o ≡ Some x)
there None h = cc
there (Some x) h = (x, refl)

below : (n : ℕ) → n < MOST_COUNT → (n == MOST_COUNT) ≡ false
below n h = grind (arith, nat_tests)

-- below the limit of the count the number is given
given-number : (V : Vault) (m : Bytes) (now : ℕ) (known : Merchant) (number : Bytes)
    → known.given < MOST_COUNT
    → (gift V m now known number).reply ≡ Number number
given-number V m now known number few =
    ap (λ b. (cond b (plain_refusal V full)
    (record {
      reply = Number number;
      after = record V { merchants = map.insert V.merchants m (merchant_after_gift known now) };
    })).reply)
    (below known.given few)

pub live_tokens_yield : LiveTokensYield
live_tokens_yield V cs s p caller m token now entry right here live few =
    let W = run cs V in
    let known = (stays_sound V cs s p).entries m token entry here in
    let at : is_live entry (time_at known.0 now) ≡ true =
    subst (λ (o : Option Merchant). is_live entry (option_map_or (λ merchant. time_at merchant now) o now)
    ≡ true) known.1 live
    in
    let number = there entry.number (first_so _ _ (first_so _ _ at)) in
    let allowed : entitled W caller m Detokenize (time_at known.0 now) ≡ true =
    ap (entitled W caller m Detokenize) (sym (moment_known W m known.0 now known.1)) ∙ right in
    let below_limit : known.0.given < MOST_COUNT =
    subst (λ (o : Option Merchant). option_map_or (λ (x : Merchant). x.given) o 0 < MOST_COUNT) known.1
    few in (
      number.0,
      number.1,
      ap (λ (o : Outcome). o.reply)
          (detokenize-entry W (token_command caller m token Detokenize now) known.0 known.1 allowed entry here
          ∙ ap (redemption W m now known.0) (live-state entry (time_at known.0 now) number.0 number.1 at))
          ∙ given-number W m now known.0 number.0 below_limit,
    )
