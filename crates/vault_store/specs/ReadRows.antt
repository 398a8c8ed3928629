-- Rows that are read.
use Rattle.std.specs.Prelude.{ℕ, Option, max}
use Rattle.std.specs.Option.{option_map_or}
use Rattle.vault_core.specs.declared.row.MerchantRow.{MerchantRow}

-- the moment of a command at a merchant's row: the one handed in where there is no row
abbrev pub row_moment : Option MerchantRow → ℕ → ℕ
row_moment row now = option_map_or (λ (r : MerchantRow). max r.moment now) row now
