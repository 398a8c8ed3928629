-- The moments of a vault's merchants, and how they stand to the clock's.
use Rattle.std.specs.Prelude.{ℕ, ◌+◌, Bool, false, Option, nat_lt, option_map}
use Rattle.std.specs.Option.{option_map_or}
use Rattle.vault_core.specs.Keys.{Bytes}
use Rattle.vault_core.specs.Vault.{Merchant, Vault as Content, merchant_at}

-- the most seconds by which a merchant's moment may be ahead of the clock's: those of a day
abbrev pub most_ahead : ℕ
most_ahead = 86400

-- the most seconds by which it may be behind: those of 31 days
abbrev pub most_behind : ℕ
most_behind = 2678400

-- a moment is ahead of another by more than a day
abbrev pub is_far_ahead : ℕ → ℕ → Bool
is_far_ahead now moment = nat_lt (now + most_ahead) moment

-- it is behind by more than 31 days
abbrev pub is_far_behind : ℕ → ℕ → Bool
is_far_behind now moment = nat_lt (moment + most_behind) now

-- the moment of a merchant, where the vault knows it
abbrev pub moment_in : Content → Bytes → Option ℕ
moment_in V m = option_map (λ (known : Merchant). known.moment) (merchant_at V m)

-- the vault knows the merchant, and its moment is so far ahead
abbrev pub is_merchant_ahead : Content → Bytes → ℕ → Bool
is_merchant_ahead V m now = option_map_or (is_far_ahead now) (moment_in V m) false

-- the same, where it is so far behind
abbrev pub is_merchant_behind : Content → Bytes → ℕ → Bool
is_merchant_behind V m now = option_map_or (is_far_behind now) (moment_in V m) false
