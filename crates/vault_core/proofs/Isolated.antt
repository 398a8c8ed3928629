-- A command at a merchant is answered the same in vaults that agree on what it reads, and changes nothing
-- else.
use Rattle.std.proofs.Common.{◌≡◌, Option, Some, None, nat_lt, refl, sym, ap, subst, ◌∙◌, ◌==◌, ℕ, not}
use Rattle.std.specs.Prelude.{IfSome}
use Rattle.std.specs.FinMap as map
use Rattle.vault_core.specs.Lives.{setting_in, new_merchant}
use Rattle.vault_core.specs.Isolation.{AgreeAt, AgreeFor, StepsAreIsolated}
use Rattle.vault_core.specs.Keys.{Bytes}
use Rattle.vault_core.specs.Merchants.{granting, withdrawal, set_from, set_to}
use Rattle.vault_core.specs.Parts.{token_command, token_request}
use Rattle.vault_core.specs.Named.{merchant_of, caller_of}
use Rattle.vault_core.specs.Outcome.{plain_refusal, Outcome, plain_reply, moved_vault}
use Rattle.vault_core.specs.Redeem.{denial, redemption, counting, gift, merchant_after_denial}
use Rattle.vault_core.specs.Redeem.{merchant_after_gift}
use Rattle.vault_core.specs.Retire.{retirement, purging, revoked_entry, without_number}
use Rattle.vault_core.specs.Show.{showing, totals}
use Rattle.vault_core.specs.Table.{outcome}
use Rattle.vault_core.specs.Vault.{Vault, merchant_at, Merchant, entitled, made_count, time_at}
use Rattle.vault_core.specs.declared.limit.TheConstants.{MOST_MERCHANTS, MOST_COUNT}
use Rattle.vault_core.specs.declared.command.Command.{Command}
use Rattle.vault_core.specs.declared.command.Command.TheVariants.{Grant, Withdraw, Tokenize, Detokenize, View}
use Rattle.vault_core.specs.declared.command.Command.TheVariants.{Revoke, Purge, Audit}
use Rattle.vault_core.specs.declared.right.Right.TheVariants as right
use Rattle.vault_core.proofs.AgreeingCommands.{Alike, alike-entry, alike-of_merchant, alike-on_token}
use Rattle.vault_core.proofs.AgreeingCommands.{alike-refused, alike-row, alike-unchanged, row_set}
use Rattle.vault_core.proofs.Finds.{some_same}
use Rattle.vault_core.proofs.Setting.{at_setting, if_setting}
use Rattle.vault_core.proofs.TokenizeAlike.{alike-tokenize}
use Rattle.vault_core.specs.Refusals.{no_right, full, token_purged, token_revoked, token_expired, still_live}
use Rattle.vault_core.specs.Refusals.{too_many_merchants}
use Rattle.vault_core.specs.declared.command.TokenCommand.{TokenCommand}
use Rattle.vault_core.specs.declared.reply.Reply.{Reply}
use Rattle.vault_core.specs.declared.reply.Reply.TheVariants.{Done, Number, Refused, Counts}
use Rattle.vault_core.specs.declared.right.Right.{Right}
use Rattle.vault_core.specs.declared.reply.State.TheVariants.{Live, Expired, Revoked}
use Rattle.vault_core.specs.declared.row.Entry.{Entry}
use Rattle.vault_core.specs.declared.row.Lives.{Lives}
use Rattle.vault_core.specs.declared.row.EntryState.{EntryState}
use Rattle.vault_core.specs.declared.row.EntryState.TheVariants.{Kept, Purged}
use Rattle.vault_core.proofs.AgreeingVaults.{same-made}
use Rattle.vault_core.proofs.Branches.{both_by_test}
use Rattle.vault_core.proofs.AgreeingChanges.{nothing, and_then, set_row, give_right, take_right}

-- a command at a merchant, in two vaults
module _ (m : Bytes) (V W : Vault) (agree : AgreeAt m V W) where
  abbrev Both : Outcome → Outcome → Type 0
  Both = Alike m None V W

  alike-set : (x : Lives) (o o' : Option Merchant) → o ≡ o'
      → (o ≡ None → nat_lt (map.len V.merchants) MOST_MERCHANTS ≡ nat_lt (map.len W.merchants) MOST_MERCHANTS)
      → Both (set_from V m x o) (set_from W m x o')
  alike-set x o o' same room =
      subst (λ (p : Option Merchant). Both (set_from V m x o) (set_from W m x p)) same (go o room)
    where
      go : (p : Option Merchant)
          → (p ≡ None → nat_lt (map.len V.merchants) MOST_MERCHANTS
          ≡ nat_lt (map.len W.merchants) MOST_MERCHANTS)
          → Both (set_from V m x p) (set_from W m x p)
      go (Some old) room = alike-row m None V W agree _ _
      go None room =
          both_by_test Both V W (λ U. nat_lt (map.len U.merchants) MOST_MERCHANTS) (room refl)
          (λ U. set_to U m (new_merchant x)) (λ U. plain_refusal U too_many_merchants)
          (alike-row m None V W agree _ _) (alike-refused m None V W agree too_many_merchants)

  alike-grant : (caller : Bytes) (right : Right) (until : Option ℕ) (now : ℕ) (known : Merchant)
      → Both (granting V (caller, (m, right)) until now known)
      (granting W (caller, (m, right)) until now known)
  alike-grant caller right until now known = record {
    reply = refl;
    after = and_then (set_row m None V W (record known { moment = time_at known now }))
        (give_right m None (moved_vault V m known now) (moved_vault W m known now) caller right
        (record { ends = until }));
  }

  alike-withdraw : (caller : Bytes) (right : Right) (now : ℕ) (known : Merchant)
      → Both (withdrawal V caller m right now known) (withdrawal W caller m right now known)
  alike-withdraw caller right now known = record {
    reply = refl;
    after = and_then (set_row m None V W (record known { moment = time_at known now }))
        (take_right m None (moved_vault V m known now) (moved_vault W m known now) caller right);
  }

  -- a count goes up, unless it is full
  alike-counting : (count : ℕ) (r : Reply) (row : Merchant)
      → Both (counting V m count r row) (counting W m count r row)
  alike-counting count r row =
      both_by_test Both V W (λ U. count == MOST_COUNT) refl (λ U. plain_refusal U full)
      (λ U. row_set U m r row) (alike-refused m None V W agree full) (alike-row m None V W agree r row)

  alike-denied : (now : ℕ) (known : Merchant) (reason : ℕ)
      → Both (denial V m now known reason) (denial W m now known reason)
  alike-denied now known reason =
      alike-counting known.denied (Refused reason) (merchant_after_denial known now)

  alike-given : (now : ℕ) (known : Merchant) (number : Bytes)
      → Both (gift V m now known number) (gift W m now known number)
  alike-given now known number =
      alike-counting known.given (Number number) (merchant_after_gift known now)

  alike-redeemed : (now : ℕ) (known : Merchant) (state : EntryState)
      → Both (redemption V m now known state) (redemption W m now known state)
  alike-redeemed now known Purged = alike-denied now known token_purged
  alike-redeemed now known (Kept number Revoked) = alike-denied now known token_revoked
  alike-redeemed now known (Kept number Expired) = alike-denied now known token_expired
  alike-redeemed now known (Kept number Live) = alike-given now known number

  alike-shown : (known : Merchant) (entry : Entry) (state : EntryState)
      → Both (showing V known entry state) (showing W known entry state)
  alike-shown known entry Purged = alike-refused m None V W agree token_purged
  alike-shown known entry (Kept number state) = alike-unchanged m None V W agree _

  alike-counted : (caller : Bytes) (now : ℕ) (known : Merchant)
      → Both (totals V caller m now known) (totals W caller m now known)
  alike-counted caller now known =
      both_by_test Both V W (λ U. not (entitled U caller m right.Audit (time_at known now)))
      (ap not (agree.rights caller right.Audit (time_at known now)))
      (λ U. plain_refusal U no_right) (λ U. plain_reply U (Counts (made_count U m) known.given known.denied))
      (alike-refused m None V W agree no_right)
      (record {
        reply = ap (λ n. Counts n known.given known.denied) (same-made m V W agree);
        after = nothing m None V W;
      })

-- a command on a token, in two vaults
module _ (t : TokenCommand) (V W : Vault) (agree : AgreeAt t.merchant V W) where
  alike-retired : (known : Merchant) (entry : Entry) (state : EntryState)
      → Alike t.merchant None V W (retirement V t known entry state) (retirement W t known entry state)
  alike-retired known entry Purged = alike-refused t.merchant None V W agree token_purged
  alike-retired known entry (Kept number state) =
      alike-entry t V W agree known (revoked_entry entry (time_at known t.moment))

  alike-purged : (known : Merchant) (entry : Entry) (state : EntryState)
      → Alike t.merchant None V W (purging V t known entry state) (purging W t known entry state)
  alike-purged known entry Purged =
      alike-row t.merchant None V W agree Done (record known { moment = time_at known t.moment })
  alike-purged known entry (Kept number Live) = alike-refused t.merchant None V W agree still_live
  alike-purged known entry (Kept number Revoked) = alike-entry t V W agree known (without_number entry)
  alike-purged known entry (Kept number Expired) = alike-entry t V W agree known (without_number entry)

-- the caller whose record a command can write
abbrev pub writer_of : Command → Option Bytes
writer_of (Tokenize caller m request usage pan digits now) = Some caller
writer_of c = None

-- a new merchant is refused in both vaults or in neither
abbrev pub HaveSameRoom : Command → Vault → Vault → Type 0
HaveSameRoom c V W = IfSome (setting_in c) (λ set. merchant_at V set.0 ≡ None
    → nat_lt (map.len V.merchants) MOST_MERCHANTS ≡ nat_lt (map.len W.merchants) MOST_MERCHANTS)

-- the vaults agree on the records of the caller whose record a command can write
abbrev pub AgreeForWriter : Command → Vault → Vault → Type 0
AgreeForWriter c V W = (caller : Bytes) → writer_of c ≡ Some caller → AgreeFor caller V W

-- a command has alike outcomes in two vaults that agree on what it reads
abbrev IsAlikeIn : Vault → Vault → Command → Type 0
IsAlikeIn V W c = AgreeAt (merchant_of c) V W → AgreeForWriter c V W → HaveSameRoom c V W
    → Alike (merchant_of c) (writer_of c) V W (outcome V c) (outcome W c)

-- each command, in two vaults
pub alike : (V W : Vault) (c : Command) → IsAlikeIn V W c
alike V W (Grant caller m right until now) agree records room =
    alike-of_merchant m None V W agree (λ U. granting U (caller, (m, right)) until now)
    (alike-grant m V W agree caller right until now)
alike V W (Withdraw caller m right now) agree records room =
    alike-of_merchant m None V W agree (λ U. withdrawal U caller m right now)
    (alike-withdraw m V W agree caller right now)
alike V W (Tokenize caller m request usage pan digits now) agree records room =
    alike-tokenize V W (token_request caller m request usage pan (now, digits)) agree (records caller refl)
alike V W (Detokenize caller m token now) agree records room =
    alike-on_token m None V W agree (token_command caller m token right.Detokenize now) refl
    (λ U. denial U m now) (λ U known entry. redemption U m now known)
    (alike-denied m V W agree now) (λ known entry. alike-redeemed m V W agree now known)
alike V W (View caller m token now) agree records room =
    alike-on_token m None V W agree (token_command caller m token right.View now) refl
    (λ U known. plain_refusal U) (λ U. showing U)
    (λ known. alike-refused m None V W agree) (alike-shown m V W agree)
alike V W (Revoke caller m token now) agree records room =
    let t = token_command caller m token right.Revoke now in
    alike-on_token m None V W agree t refl
    (λ U known. plain_refusal U) (λ U. retirement U t)
    (λ known. alike-refused m None V W agree) (alike-retired t V W agree)
alike V W (Purge caller m token now) agree records room =
    let t = token_command caller m token right.Purge now in
    alike-on_token m None V W agree t refl
    (λ U known. plain_refusal U) (λ U. purging U t)
    (λ known. alike-refused m None V W agree) (alike-purged t V W agree)
alike V W (Audit caller m now) agree records room =
    alike-of_merchant m None V W agree (λ U. totals U caller m now)
    (alike-counted m V W agree caller now)
alike V W c agree records room =
    at_setting (IsAlikeIn V W)
    (λ m x agree records room. alike-set m V W agree x (merchant_at V m) (merchant_at W m)
    agree.merchant room) c refl agree records room

-- a writer is the command's caller
writer-is_caller : (c : Command) (writer caller : Bytes) → writer_of c ≡ Some writer
    → caller_of c ≡ Some caller → caller ≡ writer
writer-is_caller (Tokenize c m request usage pan digits now) writer caller e f = some_same (sym f ∙ e)
writer-is_caller c writer caller e f = absurd (cc)

-- whoever sets merchants is no caller, so a caller's command finds the same room
caller-room : (V W : Vault) (c : Command) (caller : Bytes) → caller_of c ≡ Some caller → HaveSameRoom c V W
caller-room V W c caller e = if_setting _ c (λ m x is. let clash = sym e ∙ ap caller_of is in absurd (cc))

pub steps_isolated : StepsAreIsolated
steps_isolated V W c caller is agree records =
    let both = alike V W c agree
    (λ writer e. subst (λ (x : Bytes). AgreeFor x V W) (writer-is_caller c writer caller e is) records)
    (caller-room V W c caller is)
    in (
      both.reply,
      both.after.rows agree,
      both.after.records caller records,
      record {
        others = both.after.others;
        records = λ other apart. both.after.unwritten other
            (λ e. apart (sym (writer-is_caller c other caller e is)));
      },
    )
