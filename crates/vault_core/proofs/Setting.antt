-- What holds of a command that sets a merchant, and of its outcome: no other proof takes its parts apart.
use Rattle.std.proofs.Common.{◌≡◌, Option, Some, None, true, false, refl}
use Rattle.std.specs.Prelude.{IfSome, IsSome, nat_lt}
use Rattle.std.specs.FinMap as map
use Rattle.vault_core.specs.Keys.{Bytes}
use Rattle.vault_core.specs.Lives.{handed_lives, new_merchant, setting, setting_in, with_lives}
use Rattle.vault_core.specs.Merchants.{set_from, set_to}
use Rattle.vault_core.specs.Outcome.{Outcome, plain_refusal}
use Rattle.vault_core.specs.Refusals.{too_many_merchants}
use Rattle.vault_core.specs.Vault.{Vault, Merchant, time_at}
use Rattle.vault_core.specs.declared.command.Command.{Command}
use Rattle.vault_core.specs.declared.command.Command.TheVariants.{SetMerchant}
use Rattle.vault_core.specs.declared.limit.TheConstants.{MOST_MERCHANTS}
use Rattle.vault_core.specs.declared.row.Lives.{Lives}
use Rattle.vault_core.proofs.Branches.{by_test}

-- a command that sets a merchant to lives
pub at_setting : (P : Command → Type 0) → ((m : Bytes) (x : Lives) → P (setting m x))
    → (c : Command) → IsSome (setting_in c) → P c
at_setting P each (SetMerchant m single multi lead now) is = each m (handed_lives single multi lead now)
at_setting P each c is = absurd (cc)

-- what is asked of settings alone is so of every other command
pub if_setting : (Q : Bytes × Lives → Type 0) (c : Command)
    → ((m : Bytes) (x : Lives) → c ≡ setting m x → Q (m, x)) → IfSome (setting_in c) Q
if_setting Q (SetMerchant m single multi lead now) each = each m (handed_lives single multi lead now) refl
if_setting Q c each = tt

-- its outcome: a new merchant, too many of them, or one that is known
pub by_set : (P : Outcome → Type 0) (V : Vault) (m : Bytes) (x : Lives) (o : Option Merchant)
    → (nat_lt (map.len V.merchants) MOST_MERCHANTS ≡ true → P (set_to V m (new_merchant x)))
    → (nat_lt (map.len V.merchants) MOST_MERCHANTS ≡ false → P (plain_refusal V too_many_merchants))
    → ((known : Merchant) → P (set_to V m (with_lives (record x { moment = time_at known x.moment }) known)))
    → P (set_from V m x o)
by_set P V m x None new full known =
    by_test P (nat_lt (map.len V.merchants) MOST_MERCHANTS) (set_to V m (new_merchant x))
    (plain_refusal V too_many_merchants) new full
by_set P V m x (Some old) new full known = known old
