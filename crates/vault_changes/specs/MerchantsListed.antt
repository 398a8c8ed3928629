-- Merchants of a list that were set.
use Rattle.std.specs.Prelude.{◌≡◌, ℕ, List, [], ◌∷◌, Some, length, is_some, true}
use Rattle.std.specs.List.{AllByRecursion}
use Rattle.vault_core.specs.Keys.{Bytes}
use Rattle.vault_core.specs.Runs.{run}
use Rattle.vault_core.specs.Vault.{Merchant, Vault as Content, merchant_at}
use Rattle.vault_store.specs.Listed.{merchant_rows}
use Rattle.vault_changes.specs.Grants.{AreDone}
use Rattle.vault_changes.specs.Settings.{settings_at}
use Rattle.vault_merchants.specs.ListedMerchants.{Wanted}

-- the vault has the merchant, with these lives and this lead
pub record HasMerchant (V : Content) (row : Wanted) : Type 0 where
  pub merchant : Merchant
  pub there : merchant_at V row.0 ≡ Some merchant
  pub single : merchant.single_life ≡ row.1
  pub multi : merchant.multi_life ≡ row.2
  pub lead : merchant.lead ≡ row.3

-- no merchant of the one is lacking in the other
abbrev pub KeepsMerchants : Content → Content → Type 0
KeepsMerchants V W = (m : Bytes) → is_some (merchant_at V m) ≡ true → is_some (merchant_at W m) ≡ true

-- none of the rows has this name
abbrev pub IsOther : List Wanted → Bytes → Type 0
IsOther rows m = AllByRecursion (λ (row : Wanted). ¬ (m ≡ row.0)) rows

-- no two rows have one name
abbrev pub AreApart : List Wanted → Type 0
AreApart [] = Unit {0}
AreApart (row ∷ rows) = IsOther rows row.0 × AreApart rows

-- So it is of every vault once the settings are done that a list asks for.
abbrev pub MerchantsBecomeListed : Type 0
MerchantsBecomeListed = (now : ℕ) (rows : List Wanted) (V : Content) → AreApart rows
    → AreDone (length (settings_at now rows (merchant_rows V))) (settings_at now rows (merchant_rows V)) V
    → AllByRecursion (HasMerchant (run (settings_at now rows (merchant_rows V)) V)) rows
    × KeepsMerchants V (run (settings_at now rows (merchant_rows V)) V)
