-- What a token stands for, and how often a merchant gave and denied numbers. Neither changes anything.
use Rattle.std.specs.Prelude.{ℕ, not, if◌then◌else◌}
use Rattle.vault_pan.specs.Mask.{mask_of}
use Rattle.vault_core.specs.Keys.{Bytes}
use Rattle.vault_core.specs.Outcome.{Outcome, plain_reply, plain_refusal, of_merchant, on_token}
use Rattle.vault_core.specs.Refusals.{no_right, token_purged}
use Rattle.vault_core.specs.Vault.{Vault, Merchant, entitled, made_count, time_at}
use Rattle.vault_core.specs.declared.command.TokenCommand.{TokenCommand}
use Rattle.vault_core.specs.declared.reply.Reply.TheVariants.{Shown, Counts}
use Rattle.vault_core.specs.declared.right.Right.TheVariants as right
use Rattle.vault_core.specs.declared.row.Entry.{Entry}
use Rattle.vault_core.specs.declared.row.EntryState.{EntryState}
use Rattle.vault_core.specs.declared.row.EntryState.TheVariants.{Kept, Purged}

-- a token is shown with its state and its number masked; else 14 where it is purged
abbrev pub showing : Vault → Merchant → Entry → EntryState → Outcome
showing V merchant entry Purged = plain_refusal V token_purged
showing V merchant entry (Kept number state) =
    plain_reply V (Shown (mask_of merchant.lead number) entry.usage entry.birth entry.expires state)

-- a token is asked about
abbrev pub view : Vault → TokenCommand → Outcome
view V t = on_token V t (λ merchant. plain_refusal V) (showing V)

-- the counts of a merchant: 8 where the caller isn't entitled
abbrev pub totals : Vault → Bytes → Bytes → ℕ → Merchant → Outcome
totals V caller m now merchant =
    if not (entitled V caller m right.Audit (time_at merchant now))
    then plain_refusal V no_right
    else plain_reply V (Counts (made_count V m) merchant.given merchant.denied)

-- a merchant's counts are asked for
abbrev pub audit : Vault → Bytes → Bytes → ℕ → Outcome
audit V caller m now = of_merchant V m (totals V caller m now)
