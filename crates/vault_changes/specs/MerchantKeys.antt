-- Sets of merchants.
use Rattle.std.specs.Prelude.{◌≡◌, ℕ, List}
use Rattle.std.specs.BTreeSet.{BTreeSet, contains}
use Rattle.std.specs.Ordering.{nat_cmp, ordering_then}
use Rattle.std.specs.declared.cmp.Ordering.{Ordering}
use Rattle.vault_pan.specs.Mask.{lead_digits}
use Rattle.vault_core.specs.Keys.{Bytes, bytes_cmp}
use Rattle.vault_changes.specs.Settings.{Named, stands_in}
use Rattle.vault_merchants.specs.ListedMerchants.{Wanted}

-- a merchant with its two lives and the digits of its lead
abbrev pub Setting : Type 0
Setting = Bytes × (ℕ × (ℕ × ℕ))

-- by each of them in turn
abbrev pub setting_cmp : Setting → Setting → Ordering
setting_cmp a b =
    ordering_then (bytes_cmp a.0 b.0)
    (ordering_then (nat_cmp a.1.0 b.1.0)
    (ordering_then (nat_cmp a.1.1.0 b.1.1.0) (nat_cmp a.1.1.1 b.1.1.1)))

-- of a merchant that is held
abbrev pub held_setting : Named → Setting
held_setting held =
    (held.0, (held.1.single_life, (held.1.multi_life, lead_digits held.1.lead)))

-- of one that is wanted
abbrev pub wanted_setting : Wanted → Setting
wanted_setting row = (row.0, (row.1, (row.2, lead_digits row.3)))

-- the set has exactly the merchants that are held, with their lives and their leads
abbrev pub HasMerchants : BTreeSet Setting → List Named → Type 0
HasMerchants keys held = (row : Wanted) → contains setting_cmp keys (wanted_setting row) ≡ stands_in held row
