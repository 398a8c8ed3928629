-- A command at a merchant, asked of two vaults that agree on the merchant's rows.
use Rattle.std.proofs.Common.{◌≡◌, ℕ, Option, None, not, refl, sym, ap, subst}
use Rattle.std.specs.Option.{option_map_or}
use Rattle.std.specs.FinMap as map
use Rattle.vault_core.specs.Isolation.{AgreeAt}
use Rattle.vault_core.specs.Keys.{Bytes}
use Rattle.vault_core.specs.Outcome.{Outcome, plain_reply, plain_refusal, of_merchant, of_token, on_token}
use Rattle.vault_core.specs.Outcome.{moved_vault, entry_change}
use Rattle.vault_core.specs.Refusals.{no_merchant, no_right, no_token}
use Rattle.vault_core.specs.Vault.{Vault, Merchant, merchant_at, entry_at, entitled, time_at, state_of}
use Rattle.vault_core.specs.declared.command.TokenCommand.{TokenCommand}
use Rattle.vault_core.specs.declared.reply.Reply.{Reply}
use Rattle.vault_core.specs.declared.reply.Reply.TheVariants.{Refused}
use Rattle.vault_core.specs.declared.row.Entry.{Entry}
use Rattle.vault_core.specs.declared.row.EntryState.{EntryState}
use Rattle.vault_core.proofs.Branches.{both_by_test, both_by_option}
use Rattle.vault_core.proofs.AgreeingChanges.{Together, nothing, and_then, set_row, set_entry}

-- a merchant's row is set
abbrev pub row_set : (U : Vault) (m : Bytes) → Reply → Merchant → Outcome
row_set U m r merchant =
    record { reply = r; after = record U { merchants = map.insert U.merchants m merchant } }

-- two outcomes have the same reply, and their vaults changed together
pub record Alike (m : Bytes) (writer : Option Bytes) (V W : Vault) (o o' : Outcome) : Type 0 where
  pub reply : o.reply ≡ o'.reply
  pub after : Together m writer V W o.after o'.after

module _ (m : Bytes) (writer : Option Bytes) (V W : Vault) (agree : AgreeAt m V W) where
  abbrev Both : Outcome → Outcome → Type 0
  Both = Alike m writer V W

  pub alike-unchanged : (r : Reply) → Both (plain_reply V r) (plain_reply W r)
  alike-unchanged r = record { reply = refl; after = nothing m writer V W }

  pub alike-refused : (number : ℕ) → Both (plain_refusal V number) (plain_refusal W number)
  alike-refused number = alike-unchanged (Refused number)

  pub alike-row : (r : Reply) (merchant : Merchant)
      → Both (row_set V m r merchant) (row_set W m r merchant)
  alike-row r merchant = record { reply = refl; after = set_row m writer V W merchant }

  pub alike-of_merchant : (answer : Vault → Merchant → Outcome)
      → ((known : Merchant) → Both (answer V known) (answer W known))
      → Both (of_merchant V m (answer V)) (of_merchant W m (answer W))
  alike-of_merchant answer alike =
      both_by_option Both V W (λ U. merchant_at U m) agree.merchant answer
      (λ U. plain_refusal U no_merchant) alike (alike-refused no_merchant)

  pub alike-on_token : (t : TokenCommand) → t.merchant ≡ m
      → (refusal : Vault → Merchant → ℕ → Outcome) (answer : Vault → Merchant → Entry → EntryState → Outcome)
      → ((known : Merchant) (number : ℕ) → Both (refusal V known number) (refusal W known number))
      → ((known : Merchant) (entry : Entry) (state : EntryState)
      → Both (answer V known entry state) (answer W known entry state))
      → Both (on_token V t (refusal V) (answer V)) (on_token W t (refusal W) (answer W))
  alike-on_token t named refusal answer refusing answering =
      both_by_option Both V W (λ U. merchant_at U t.merchant) (ap-at (λ U x. merchant_at U x) agree.merchant)
      (λ U known. of_token U t known (refusal U known) (by_state U known)) (λ U. plain_refusal U no_merchant)
      (λ known. both_by_test Both V W
      (λ U. not (entitled U t.caller t.merchant t.right (time_at known t.moment)))
      (ap not (ap-at (λ U x. entitled U t.caller x t.right (time_at known t.moment))
      (agree.rights t.caller t.right (time_at known t.moment))))
      (λ U. refusal U known no_right)
      (λ U. option_map_or (by_state U known) (entry_at U t.merchant t.token) (refusal U known no_token))
      (refusing known no_right)
      (both_by_option Both V W (λ U. entry_at U t.merchant t.token)
      (ap-at (λ U x. entry_at U x t.token) (agree.entries t.token))
      (λ U. by_state U known) (λ U. refusal U known no_token)
      (λ entry. answering known entry (state_of entry (time_at known t.moment)))
      (refusing known no_token)))
      (alike-refused no_merchant)
    where
      by_state : Vault → Merchant → Entry → Outcome
      by_state U known entry = answer U known entry (state_of entry (time_at known t.moment))

      ap-at : {A : Type 0} (f : Vault → Bytes → A) → f V m ≡ f W m → f V t.merchant ≡ f W t.merchant
      ap-at {A = A} f same = subst (λ (x : Bytes). f V x ≡ f W x) (sym named) same

-- an entry of the token is set, and so is the merchant's moment
module _ (t : TokenCommand) (V W : Vault) (agree : AgreeAt t.merchant V W) where
  pub alike-entry : (known : Merchant) (entry : Entry)
      → Alike t.merchant None V W (entry_change V t known entry) (entry_change W t known entry)
  alike-entry known entry = record {
    reply = refl;
    after = and_then (set_row t.merchant None V W (record known { moment = time_at known t.moment }))
        (set_entry t.merchant None (moved_vault V t.merchant known t.moment)
        (moved_vault W t.merchant known t.moment) t.token entry);
  }
