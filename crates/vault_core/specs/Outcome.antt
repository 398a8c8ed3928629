-- The reply to a command and the vault that it leaves.
use Rattle.std.specs.Prelude.{ℕ, not, if◌then◌else◌}
use Rattle.std.specs.Option.{option_map_or}
use Rattle.std.specs.FinMap as map
use Rattle.vault_core.specs.Keys.{Bytes}
use Rattle.vault_core.specs.Vault.{Vault, Merchant, merchant_at, entry_at, entitled, time_at, state_of}
use Rattle.vault_core.specs.Refusals.{no_merchant, no_right, no_token}
use Rattle.vault_core.specs.declared.command.TokenCommand.{TokenCommand}
use Rattle.vault_core.specs.declared.reply.Reply.{Reply}
use Rattle.vault_core.specs.declared.reply.Reply.TheVariants.{Done, Refused}
use Rattle.vault_core.specs.declared.row.Entry.{Entry}
use Rattle.vault_core.specs.declared.row.EntryState.{EntryState}

-- what a command is answered, and the vault after it
pub record Outcome : Type 0 where
  pub reply : Reply
  pub after : Vault

-- nothing changes
abbrev pub plain_reply : Vault → Reply → Outcome
plain_reply V reply = record { reply = reply; after = V }

-- a refusal that changes nothing
abbrev pub plain_refusal : Vault → ℕ → Outcome
plain_refusal V number = plain_reply V (Refused number)

-- at a merchant that is known; else 7
abbrev pub of_merchant : Vault → Bytes → (Merchant → Outcome) → Outcome
of_merchant V m answer = option_map_or answer (merchant_at V m) (plain_refusal V no_merchant)

-- of a token that the merchant has, for a caller that is entitled; else 8 or 13
abbrev pub of_token : Vault → TokenCommand → Merchant → (ℕ → Outcome) → (Entry → Outcome) → Outcome
of_token V t merchant refusal answer =
    if not (entitled V t.caller t.merchant t.right (time_at merchant t.moment))
    then refusal no_right
    else option_map_or answer (entry_at V t.merchant t.token) (refusal no_token)

-- a command on a token is answered by the state of the token's entry at the command's moment
abbrev pub on_token : Vault → TokenCommand → (Merchant → ℕ → Outcome)
    → (Merchant → Entry → EntryState → Outcome) → Outcome
on_token V t refusal answer =
    of_merchant V t.merchant
    (λ merchant. of_token V t merchant (refusal merchant)
    (λ entry. answer merchant entry (state_of entry (time_at merchant t.moment))))

-- the merchant's moment moves to the command's
abbrev pub moved_vault : Vault → Bytes → Merchant → ℕ → Vault
moved_vault V m merchant now =
    record V { merchants = map.insert V.merchants m (record merchant { moment = time_at merchant now }) }

-- done, with the merchant's moment moved and an entry of the token's
abbrev pub entry_change : Vault → TokenCommand → Merchant → Entry → Outcome
entry_change V t merchant entry = record {
  reply = Done;
  after = record (moved_vault V t.merchant merchant t.moment) {
    entries = map.insert V.entries (t.merchant, t.token) entry;
  };
}
