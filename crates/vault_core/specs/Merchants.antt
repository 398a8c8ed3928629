-- Merchants that are set, and rights that are given and taken away.
use Rattle.std.specs.Prelude.{ℕ, Option, Some, None, nat_lt, if◌then◌else◌}
use Rattle.std.specs.FinMap as map
use Rattle.vault_core.specs.Keys.{Bytes}
use Rattle.vault_core.specs.Lives.{new_merchant, with_lives}
use Rattle.vault_core.specs.Outcome.{Outcome, plain_refusal, of_merchant, moved_vault}
use Rattle.vault_core.specs.Vault.{Vault, Merchant, merchant_at, time_at}
use Rattle.vault_core.specs.Refusals.{too_many_merchants}
use Rattle.vault_core.specs.declared.limit.TheConstants.{MOST_MERCHANTS}
use Rattle.vault_core.specs.declared.reply.Reply.TheVariants.{Done}
use Rattle.vault_core.specs.declared.right.Right.{Right}
use Rattle.vault_core.specs.declared.row.Lives.{Lives}

-- done, with the merchant set to this
abbrev pub set_to : Vault → Bytes → Merchant → Outcome
set_to V m merchant =
    record { reply = Done; after = record V { merchants = map.insert V.merchants m merchant } }

-- a merchant that is known gets new lives and a new lead, and its moment moves; a new one is refused where
-- there is no room
abbrev pub set_from : Vault → Bytes → Lives → Option Merchant → Outcome
set_from V m x (Some old) = set_to V m (with_lives (record x { moment = time_at old x.moment }) old)
set_from V m x None =
    if nat_lt (map.len V.merchants) MOST_MERCHANTS
    then set_to V m (new_merchant x)
    else plain_refusal V too_many_merchants

-- a merchant is set
abbrev pub set_merchant : Vault → Bytes → Lives → Outcome
set_merchant V m x = set_from V m x (merchant_at V m)

-- done, with the right of a caller at a merchant given up to this end
abbrev pub granting : Vault → Bytes × (Bytes × Right) → Option ℕ → ℕ → Merchant → Outcome
granting V given until now merchant = record {
  reply = Done;
  after = record (moved_vault V given.1.0 merchant now) {
    rights = map.insert V.rights given (record { ends = until });
  };
}

-- a right is given; where it was there before it gets this end
abbrev pub grant : Vault → Bytes → Bytes → Right → Option ℕ → ℕ → Outcome
grant V caller m right until now = of_merchant V m (granting V (caller, (m, right)) until now)

-- done, with the right taken away
abbrev pub withdrawal : Vault → Bytes → Bytes → Right → ℕ → Merchant → Outcome
withdrawal V caller m right now merchant = record {
  reply = Done;
  after = record (moved_vault V m merchant now) { rights = map.remove V.rights (caller, (m, right)) };
}

-- a right is taken away, also where it wasn't there before
abbrev pub withdraw : Vault → Bytes → Bytes → Right → ℕ → Outcome
withdraw V caller m right now = of_merchant V m (withdrawal V caller m right now)
