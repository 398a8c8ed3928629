-- The life of a token is ended, and its number is purged.
use Rattle.std.specs.Prelude.{ℕ, Some, None}
use Rattle.std.specs.Option.{option_map_or}
use Rattle.vault_core.specs.Outcome.{Outcome, plain_refusal, moved_vault, on_token, entry_change}
use Rattle.vault_core.specs.Refusals.{token_purged, still_live}
use Rattle.vault_core.specs.Vault.{Vault, Merchant, time_at}
use Rattle.vault_core.specs.declared.command.TokenCommand.{TokenCommand}
use Rattle.vault_core.specs.declared.reply.Reply.TheVariants.{Done}
use Rattle.vault_core.specs.declared.reply.State.TheVariants.{Live, Expired, Revoked}
use Rattle.vault_core.specs.declared.row.Entry.{Entry}
use Rattle.vault_core.specs.declared.row.EntryState.{EntryState}
use Rattle.vault_core.specs.declared.row.EntryState.TheVariants.{Kept, Purged}

-- an entry revoked at a moment; where it was revoked before, the first moment stays
abbrev pub revoked_entry : Entry → ℕ → Entry
revoked_entry entry at = record entry { revoked = Some (option_map_or (λ first. first) entry.revoked at) }

-- a token is revoked, also where it was before; else 14 where it is purged
abbrev pub retirement : Vault → TokenCommand → Merchant → Entry → EntryState → Outcome
retirement V t merchant entry Purged = plain_refusal V token_purged
retirement V t merchant entry (Kept number state) =
    entry_change V t merchant (revoked_entry entry (time_at merchant t.moment))

-- a token's life is ended
abbrev pub revoke : Vault → TokenCommand → Outcome
revoke V t = on_token V t (λ merchant. plain_refusal V) (retirement V t)

-- an entry without its number, and with everything else
abbrev pub without_number : Entry → Entry
without_number entry = record entry { number = None }

-- the number of a token is purged, also where it was before; else 17 where the token is live
abbrev pub purging : Vault → TokenCommand → Merchant → Entry → EntryState → Outcome
purging V t merchant entry Purged =
    record { reply = Done; after = moved_vault V t.merchant merchant t.moment }
purging V t merchant entry (Kept number Live) = plain_refusal V still_live
purging V t merchant entry (Kept number Revoked) = entry_change V t merchant (without_number entry)
purging V t merchant entry (Kept number Expired) = entry_change V t merchant (without_number entry)

-- a token's number is purged
abbrev pub purge : Vault → TokenCommand → Outcome
purge V t = on_token V t (λ merchant. plain_refusal V) (purging V t)
