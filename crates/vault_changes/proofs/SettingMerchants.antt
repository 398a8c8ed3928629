-- What sets merchants is done or refused.
use Rattle.std.proofs.Common.{◌≡◌, ℕ, List, [], ◌∷◌, All, Bool, true, false, not, cond, Option, Some, None}
use Rattle.std.proofs.Common.{ap, map, refl, Ok, Err, nat_lt, ◌∙◌}
use Rattle.std.proofs.lemmas.List.Elements.{All-cons, All-head, All-nil, All-tail}
use Rattle.std.specs.FinMap as fin
use Rattle.vault_pan.specs.declared.lead.Lead.{Lead}
use Rattle.vault_core.specs.Lives.{handed_lives, new_merchant}
use Rattle.vault_core.specs.Merchants.{set_from, set_to}
use Rattle.vault_core.specs.Outcome.{plain_refusal}
use Rattle.vault_core.specs.Refusals.{too_many_merchants}
use Rattle.vault_core.specs.Table.{reply}
use Rattle.vault_core.specs.Vault.{Merchant, Vault as Content, merchant_at}
use Rattle.vault_core.specs.declared.command.Command.TheVariants.{SetMerchant}
use Rattle.vault_core.specs.declared.limit.TheConstants.{MOST_MERCHANTS}
use Rattle.vault_core.specs.declared.reply.Reply.{Reply}
use Rattle.vault_changes.specs.Carried.{IsCarriedOut, Verdict, reply_of}
use Rattle.vault_changes.specs.Settings.{HasLives, Named, missing_merchants, setting_at, settings_at}
use Rattle.vault_merchants.specs.ListedMerchants.{Wanted}
use Rattle.vault_changes.specs.Settings.{stands_in}

-- a merchant is set, or that is refused
set_or_refused : (m : List ℕ) (single multi : ℕ) (lead : Lead) (now : ℕ) (V : Content)
    → (v : Verdict) × (reply V (SetMerchant m single multi lead now) ≡ reply_of v)
set_or_refused m single multi lead now V = by_merchant (merchant_at V m) refl
  where
    answered : Option Merchant → Reply
    answered found = (set_from V m (handed_lives single multi lead now) found).reply

    by_room : (b : Bool) → nat_lt (fin.len V.merchants) MOST_MERCHANTS ≡ b
        → (v : Verdict) × (answered None ≡ reply_of v)
    by_room true is = (
      Ok tt,
      ap (λ b. (cond b (set_to V m (new_merchant (handed_lives single multi lead now)))
          (plain_refusal V too_many_merchants)).reply) is,
    )
    by_room false is = (
      Err too_many_merchants,
      ap (λ b. (cond b (set_to V m (new_merchant (handed_lives single multi lead now)))
          (plain_refusal V too_many_merchants)).reply) is,
    )

    by_merchant : (found : Option Merchant) → merchant_at V m ≡ found
        → (v : Verdict) × (reply V (SetMerchant m single multi lead now) ≡ reply_of v)
    by_merchant None is =
        let it = by_room (nat_lt (fin.len V.merchants) MOST_MERCHANTS) refl in
        (it.0, ap answered is ∙ it.1)
    by_merchant (Some merchant) is = (Ok tt, ap answered is)

-- each of those that are missing is set, or that is refused
pub settings_carried : (now : ℕ) (rows : List Wanted) (held : List Named) → All HasLives rows
    → All IsCarriedOut (settings_at now rows held)
settings_carried now [] held lives = All-nil IsCarriedOut
settings_carried now (row ∷ rows) held lives =
    let rest = settings_carried now rows held (All-tail HasLives row rows lives) in
    elim (not (stands_in held row)) as (λ b. All IsCarriedOut (map (λ r. setting_at now r)
    (cond b (row ∷ missing_merchants rows held) (missing_merchants rows held)))) [
      | true ↦ All-cons IsCarriedOut (setting_at now row) (settings_at now rows held) (record {
        lives = All-head HasLives row rows lives;
        verdict = set_or_refused row.0 row.1 row.2 row.3 now;
      }) rest
      | false ↦ rest
    ]
