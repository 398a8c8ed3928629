-- Which merchants of a list a vault knows.
use Rattle.std.specs.Prelude.{ℕ, ◌+◌, Bool, List, filter, length, nat_lt, not}
use Rattle.std.specs.List.{list_any}
use Rattle.std.specs.Ordering.{eq_by_cmp}
use Rattle.vault_changes.specs.Settings.{Named}
use Rattle.vault_core.specs.Keys.{Bytes, bytes_cmp}
use Rattle.vault_core.specs.declared.limit.TheConstants.{MOST_MERCHANTS}
use Rattle.vault_merchants.specs.ListedMerchants.{Wanted}
use Rattle.vault_rights.specs.Named.{Row}

-- a merchant has this name
abbrev pub has_merchant : List Named → Bytes → Bool
has_merchant held name = list_any (λ it. eq_by_cmp bytes_cmp it.0 name) held

-- a row has the name of none
abbrev pub lacks_merchant : List Named → List Row → Bool
lacks_merchant held rows = list_any (λ row. not (has_merchant held row.1)) rows

-- how many rows have the name of none
abbrev pub new_merchants : List Named → List Wanted → ℕ
new_merchants held rows = length (filter (λ row. not (has_merchant held row.0)) rows)

-- with those that are held there would be more merchants than there may be
abbrev pub are_too_many : List Named → List Wanted → Bool
are_too_many held rows = nat_lt MOST_MERCHANTS (length held + new_merchants held rows)
