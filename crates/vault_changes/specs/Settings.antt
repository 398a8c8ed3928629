-- What makes the merchants of a list those of a vault.
use Rattle.std.specs.Prelude.{◌≡◌, ◌⊎◌, ℕ, ◌==◌, ◌&&◌, Bool, not, List, filter, map, Err}
use Rattle.std.specs.List.{list_any}
use Rattle.std.specs.Ordering.{eq_by_cmp}
use Rattle.vault_pan.specs.Mask.{lead_digits}
use Rattle.vault_core.specs.Keys.{Bytes, bytes_cmp}
use Rattle.vault_core.specs.Scalar.{IsLife}
use Rattle.vault_core.specs.Vault.{Vault as Content}
use Rattle.vault_core.specs.declared.command.Command.{Command}
use Rattle.vault_core.specs.declared.command.Command.TheVariants.{SetMerchant}
use Rattle.vault_core.specs.declared.row.MerchantRow.{MerchantRow}
use Rattle.vault_engine.specs.Passing.{IsBefore, Passage}
use Rattle.vault_merchants.specs.ListedMerchants.{Wanted}
use Rattle.vault_store.specs.Listed.{merchant_rows}
use Rattle.vault_store.specs.declared.vault.Fault.{Fault}
use Rattle.vault_changes.specs.Grants.{CarriesAll}
use Rattle.vault_changes.specs.Settling.{FailsToRead}

-- its lives are lives
abbrev pub HasLives : Wanted → Type 0
HasLives row = IsLife row.1 × IsLife row.2

-- a merchant with its row
abbrev pub Named : Type 0
Named = Bytes × MerchantRow

-- the merchant that is held is the one that is wanted, with its lives and its lead
abbrev pub is_set : Named → Wanted → Bool
is_set held row = eq_by_cmp bytes_cmp held.0 row.0 && (held.1.single_life == row.1
    && (held.1.multi_life == row.2 && lead_digits held.1.lead == lead_digits row.3))

-- one of those that are held is
abbrev pub stands_in : List Named → Wanted → Bool
stands_in held row = list_any (λ it. is_set it row) held

-- the wanted merchants that aren't held so
abbrev pub missing_merchants : List Wanted → List Named → List Wanted
missing_merchants rows held = filter (λ row. not (stands_in held row)) rows

-- the command that sets a merchant at a moment
abbrev pub setting_at : ℕ → Wanted → Command
setting_at now row = SetMerchant row.0 row.1 row.2 row.3 now

-- the commands that set the merchants of a list, in its order
abbrev pub wanted_at : ℕ → List Wanted → List Command
wanted_at now rows = map (λ row. setting_at now row) rows

-- the commands that set those that aren't held so
abbrev pub settings_at : ℕ → List Wanted → List Named → List Command
settings_at now rows held = wanted_at now (missing_merchants rows held)

-- The first commands are done that set the wanted merchants, or the merchants that are held weren't read.
abbrev pub Sets : ℕ → List Wanted → Passage → Fault → Type 0
Sets now rows w f = ((cs : List Command)
    × ((V : Content) → IsBefore w V → cs ≡ settings_at now rows (merchant_rows V))
    × CarriesAll cs w (Err f)) ⊎ FailsToRead w f
