-- What changes rights, or sets a merchant, leaves a vault as it was where it is refused.
use Rattle.std.proofs.Common.{◌≡◌, ℕ, List, [], ◌∷◌, All, Bool, true, false, Option, Some, None, refl}
use Rattle.std.proofs.Common.{map as each}
use Rattle.std.specs.Prelude.{nat_lt, if◌then◌else◌}
use Rattle.std.proofs.lemmas.List.Elements.{All-append, All-cons, All-nil}
use Rattle.std.specs.Option.{option_map_or}
use Rattle.std.specs.FinMap as map
use Rattle.vault_core.specs.Lives.{handed_lives, new_merchant}
use Rattle.vault_core.specs.Merchants.{granting, set_from, set_to, withdrawal}
use Rattle.vault_core.specs.Outcome.{Outcome, plain_refusal}
use Rattle.vault_core.specs.Refusals.{no_merchant, too_many_merchants}
use Rattle.vault_core.specs.Vault.{Merchant, Vault as Content, merchant_at}
use Rattle.vault_core.specs.declared.command.Command.{Command}
use Rattle.vault_core.specs.declared.command.Command.TheVariants.{Grant, Purge, Withdraw}
use Rattle.vault_core.specs.declared.reply.Reply.TheVariants as answer
use Rattle.vault_core.specs.declared.limit.TheConstants.{MOST_MERCHANTS}
use Rattle.vault_core.specs.declared.right.Right.{Right}
use Rattle.vault_core.specs.declared.row.Lives.{Lives}
use Rattle.vault_merchants.specs.ListedMerchants.{Wanted}
use Rattle.vault_rights.specs.Named.{Row}
use Rattle.vault_store.specs.Listed.{merchant_rows}
use Rattle.vault_changes.proofs.Purging.{refused_leaves}
use Rattle.vault_changes.specs.Changes.{Held, missing_rows, rights_of, surplus_rights, withdrawals_at}
use Rattle.vault_changes.specs.Grants.{grants_at}
use Rattle.vault_changes.specs.Purges.{purges_of}
use Rattle.vault_changes.specs.Settings.{missing_merchants, setting_at}
use Rattle.vault_live.specs.Kinds.{KeepsRefused, merchants_changes, rights_changes}

-- what is done at a merchant that is known, and refused where it isn't
at_merchant : (V : Content) (known : Merchant → Outcome)
    → ((merchant : Merchant) → (known merchant).reply ≡ answer.Done)
    → (found : Option Merchant) (n : ℕ)
    → (option_map_or known found (plain_refusal V no_merchant)).reply ≡ answer.Refused n
    → (option_map_or known found (plain_refusal V no_merchant)).after ≡ V
at_merchant V known done None n is = refl
at_merchant V known done (Some merchant) n is = absurd (cc (done merchant, is))

grant_refused : (caller m : List ℕ) (right : Right) (until : Option ℕ) (now : ℕ)
    → KeepsRefused (Grant caller m right until now)
grant_refused caller m right until now V n is =
    at_merchant V (granting V (caller, (m, right)) until now) (λ merchant. refl) (merchant_at V m) n is

withdrawal_refused : (caller m : List ℕ) (right : Right) (now : ℕ)
    → KeepsRefused (Withdraw caller m right now)
withdrawal_refused caller m right now V n is =
    at_merchant V (withdrawal V caller m right now) (λ merchant. refl) (merchant_at V m) n is

-- a merchant is set, or refused where there is no room for a new one
at_setting : (V : Content) (m : List ℕ) (x : Lives) (found : Option Merchant) (n : ℕ)
    → (set_from V m x found).reply ≡ answer.Refused n → (set_from V m x found).after ≡ V
at_setting V m x (Some old) n is = absurd (cc (is))
at_setting V m x None n is = at_room (nat_lt (map.len V.merchants) MOST_MERCHANTS) is
  where
    at_room : (room : Bool)
        → (if room then set_to V m (new_merchant x) else plain_refusal V too_many_merchants).reply
        ≡ answer.Refused n
        → (if room then set_to V m (new_merchant x) else plain_refusal V too_many_merchants).after ≡ V
    at_room true is = absurd (cc (is))
    at_room false is = refl

setting_refused : (now : ℕ) (row : Wanted) → KeepsRefused (setting_at now row)
setting_refused now row V n is =
    at_setting V row.0 (handed_lives row.1 row.2 row.3 now) (merchant_at V row.0) n is

-- each of the commands that items stand for
each_refused : {X : Type 0} (f : X → Command) → ((x : X) → KeepsRefused (f x)) → (xs : List X)
    → All KeepsRefused (each f xs)
each_refused f one [] = All-nil KeepsRefused
each_refused f one (x ∷ xs) = All-cons KeepsRefused (f x) (each f xs) (one x) (each_refused f one xs)

-- the changes of a list of rights do
pub changes_refused : (now : ℕ) (rows : List Row) (V : Content)
    → All KeepsRefused (rights_changes now rows V)
changes_refused now rows V = let held : List Held = rights_of V in
    All-append KeepsRefused (grants_at now (missing_rows rows held))
    (withdrawals_at now (surplus_rights rows held))
    (each_refused (λ (row : Row). Grant row.0 row.1 row.2 row.3 now)
    (λ row. grant_refused row.0 row.1 row.2 row.3 now) (missing_rows rows held))
    (each_refused (λ (it : Held). Withdraw it.0.0 it.0.1.0 it.0.1.1 now)
    (λ it. withdrawal_refused it.0.0 it.0.1.0 it.0.1.1 now) (surplus_rights rows held))

-- and those of a list of merchants
pub settings_refused : (now : ℕ) (rows : List Wanted) (V : Content)
    → All KeepsRefused (merchants_changes now rows V)
settings_refused now rows V = each_refused (λ row. setting_at now row) (setting_refused now)
    (missing_merchants rows (merchant_rows V))

-- and purges do
pub purges_refused : (caller m : List ℕ) (now : ℕ) (tokens : List (List ℕ))
    → All KeepsRefused (purges_of caller m now tokens)
purges_refused caller m now = each_refused (λ token. Purge caller m token now)
    (λ token V n is. refused_leaves caller m token now V n is)
