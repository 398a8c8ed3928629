-- A token is asked for.
use Rattle.std.specs.Prelude.{ℕ, ◌+◌, ◌==◌, Some, None, not, if◌then◌else◌}
use Rattle.std.specs.Option.{option_map_or}
use Rattle.std.specs.FinMap as map
use Rattle.vault_core.specs.Draw.{chosen_token}
use Rattle.vault_core.specs.Keys.{Bytes}
use Rattle.vault_core.specs.Outcome.{Outcome, plain_reply, plain_refusal, of_merchant, moved_vault}
use Rattle.vault_core.specs.Repeats.{is_repeat, current, reusable}
use Rattle.vault_core.specs.Vault.{Vault, Merchant, entry_at, record_at, entitled, made_count, time_at}
use Rattle.vault_core.specs.Vault.{life_for}
use Rattle.vault_core.specs.declared.limit.TheConstants.{MOST_TOKENS}
use Rattle.vault_core.specs.declared.command.TokenRequest.{TokenRequest}
use Rattle.vault_core.specs.Refusals.{no_right, wrong_use, number_reused, full, no_candidate}
use Rattle.vault_core.specs.declared.reply.Reply.TheVariants.{Token}
use Rattle.vault_core.specs.declared.right.Right.TheVariants as right
use Rattle.vault_core.specs.declared.row.Entry.{Entry}
use Rattle.vault_core.specs.declared.row.Record.{Record}

-- a request is recorded with the token that it is answered, and the merchant's moment moves
abbrev pub with_record : Vault → TokenRequest → Merchant → Bytes → Vault
with_record V a merchant token =
    let r : Record = record { merchant = a.merchant; token = token; usage = a.usage } in
    record (moved_vault V a.merchant merchant a.moment) {
      records = map.insert V.records (a.caller, a.request) r;
    }

-- a token that is live is given again
abbrev pub token_again : Vault → TokenRequest → Merchant → Bytes × Entry → Outcome
token_again V a merchant held =
    record { reply = Token held.0 held.1.expires; after = with_record V a merchant held.0 }

-- how long the tokens of the use that is asked for live
abbrev pub life_asked : TokenRequest → Merchant → ℕ
life_asked a merchant = life_for a.usage merchant.single_life merchant.multi_life

-- the entry of a new token: born at the command's moment
abbrev pub new_entry : TokenRequest → Merchant → Entry
new_entry a merchant =
    let at = time_at merchant a.moment in
    record {
      number = Some a.pan;
      usage = a.usage;
      birth = at;
      expires = at + life_asked a merchant;
      revoked = None;
    }

-- a new token, with its entry and its record
abbrev pub new_token : Vault → TokenRequest → Merchant → Bytes → Outcome
new_token V a merchant token =
    let entry = new_entry a merchant in
    record {
      reply = Token token entry.expires;
      after = record (with_record V a merchant token) {
        entries = map.insert V.entries (a.merchant, token) entry;
      };
    }

-- a token is drawn: 11 where there is no room, 12 where no candidate is good
abbrev pub drawing : Vault → TokenRequest → Merchant → Outcome
drawing V a merchant =
    if made_count V a.merchant == MOST_TOKENS
    then plain_refusal V full
    else option_map_or (new_token V a merchant) (chosen_token V a.merchant a.pan a.digits)
    (plain_refusal V no_candidate)

-- a new request at a merchant: 8 where the caller isn't entitled, 9 where the use isn't offered
abbrev pub new_request : Vault → TokenRequest → Merchant → Outcome
new_request V a merchant =
    if not (entitled V a.caller a.merchant right.Tokenize (time_at merchant a.moment))
    then plain_refusal V no_right
    else if life_asked a merchant == 0
    then plain_refusal V wrong_use
    else option_map_or (token_again V a merchant)
    (reusable a.usage (current V a.merchant a.pan (time_at merchant a.moment))) (drawing V a merchant)

-- the entry of a request's record: a repeat is answered its token, whatever became of it
abbrev pub repetition : Vault → TokenRequest → Record → Entry → Outcome
repetition V a r entry =
    if is_repeat a.merchant a.usage a.pan r entry
    then plain_reply V (Token r.token entry.expires)
    else plain_refusal V number_reused

-- a request that was recorded: a repeat, or 10
abbrev pub earlier_request : Vault → TokenRequest → Record → Outcome
earlier_request V a r =
    option_map_or (repetition V a r) (entry_at V r.merchant r.token) (plain_refusal V number_reused)

-- a token is asked for: a request that was recorded, or a new one
abbrev pub tokenize : Vault → TokenRequest → Outcome
tokenize V a =
    option_map_or (earlier_request V a) (record_at V a.caller a.request)
    (of_merchant V a.merchant (new_request V a))
