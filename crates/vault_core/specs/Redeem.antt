-- A token is brought back to its card number.
use Rattle.std.specs.Prelude.{ℕ, ◌+◌, ◌==◌, if◌then◌else◌}
use Rattle.std.specs.FinMap as map
use Rattle.vault_core.specs.Keys.{Bytes}
use Rattle.vault_core.specs.Outcome.{Outcome, plain_refusal, on_token}
use Rattle.vault_core.specs.Refusals.{full, token_purged, token_revoked, token_expired}
use Rattle.vault_core.specs.Vault.{Vault, Merchant, time_at}
use Rattle.vault_core.specs.declared.limit.TheConstants.{MOST_COUNT}
use Rattle.vault_core.specs.declared.command.TokenCommand.{TokenCommand}
use Rattle.vault_core.specs.declared.reply.Reply.{Reply}
use Rattle.vault_core.specs.declared.reply.Reply.TheVariants.{Number, Refused}
use Rattle.vault_core.specs.declared.reply.State.TheVariants.{Live, Expired, Revoked}
use Rattle.vault_core.specs.declared.row.EntryState.{EntryState}
use Rattle.vault_core.specs.declared.row.EntryState.TheVariants.{Kept, Purged}

-- the merchant's moment moves, and one more number was given
abbrev pub merchant_after_gift : Merchant → ℕ → Merchant
merchant_after_gift merchant now =
    record merchant { moment = time_at merchant now; given = merchant.given + 1 }

-- the merchant's moment moves, and one more number was denied
abbrev pub merchant_after_denial : Merchant → ℕ → Merchant
merchant_after_denial merchant now =
    record merchant { moment = time_at merchant now; denied = merchant.denied + 1 }

-- an answer that is counted sets the merchant's row; 11 where that count can't go up
abbrev pub counting : Vault → Bytes → ℕ → Reply → Merchant → Outcome
counting V m count reply merchant =
    if count == MOST_COUNT
    then plain_refusal V full
    else record { reply = reply; after = record V { merchants = map.insert V.merchants m merchant } }

-- a number is given and counted; 11 where no more can be counted
abbrev pub gift : Vault → Bytes → ℕ → Merchant → Bytes → Outcome
gift V m now merchant number =
    counting V m merchant.given (Number number) (merchant_after_gift merchant now)

-- a number is denied and that is counted; 11 where no more can be counted
abbrev pub denial : Vault → Bytes → ℕ → Merchant → ℕ → Outcome
denial V m now merchant reason =
    counting V m merchant.denied (Refused reason) (merchant_after_denial merchant now)

-- the number of a token is given by its state; else 14 where it is purged, 15 where it is revoked and 16
-- where it has expired
abbrev pub redemption : Vault → Bytes → ℕ → Merchant → EntryState → Outcome
redemption V m now merchant Purged = denial V m now merchant token_purged
redemption V m now merchant (Kept number Revoked) = denial V m now merchant token_revoked
redemption V m now merchant (Kept number Expired) = denial V m now merchant token_expired
redemption V m now merchant (Kept number Live) = gift V m now merchant number

-- a card number is asked for: 8 without the right and 13 where there is no such token are counted too
abbrev pub detokenize : Vault → TokenCommand → Outcome
detokenize V t =
    on_token V t (denial V t.merchant t.moment) (λ merchant entry. redemption V t.merchant t.moment merchant)
