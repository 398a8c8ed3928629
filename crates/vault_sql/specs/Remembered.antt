-- What tables remember of what they read last, and the vaults of which it is so.
use Rattle.std.specs.Prelude.{◌≡◌, All, Option, Some, None, replicate}
use Rattle.vault_core.specs.Vault.{Vault, right_at}
use Rattle.vault_core.specs.Window.{row_at}
use Rattle.vault_sql.specs.declared.remembered.KnownMerchant.{KnownMerchant}
use Rattle.vault_sql.specs.declared.remembered.KnownRight.{KnownRight}
use Rattle.vault_sql.specs.declared.remembered.Remembered.{Remembered}
use Rattle.vault_sql.specs.declared.remembered.TheConstants.{MERCHANTS, RIGHTS}

-- the row of a merchant that is known, if any, is the vault's
abbrev pub IsRowOf : Vault → Option KnownMerchant → Type 0
IsRowOf V None = Unit {0}
IsRowOf V (Some known) = row_at V known.name ≡ Some known.row

-- so is a right that is known, or that it isn't there
abbrev pub IsRightOf : Vault → Option KnownRight → Type 0
IsRightOf V None = Unit {0}
IsRightOf V (Some known) = right_at V known.caller known.merchant known.right ≡ known.grant

-- each row and each right that is remembered is the vault's
pub record IsOf (r : Remembered) (V : Vault) : Type 0 where
  pub rows : All (IsRowOf V) r.merchants
  pub rights : All (IsRightOf V) r.rights

-- nothing is remembered
abbrev pub nothing : Remembered
nothing = record {
  merchants = replicate MERCHANTS None;
  rights = replicate RIGHTS None;
  next_merchant = 0;
  next_right = 0;
}
