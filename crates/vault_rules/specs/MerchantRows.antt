-- What a row of `merchants` says of a merchant, column by column.
use Rattle.std.specs.Prelude.{◌≡◌, pos}
use Rattle.vault_core.specs.Vault.{Merchant}
use Rattle.vault_core.specs.declared.row.Lives.{Lives}
use Rattle.vault_pan.specs.Mask.{lead_digits}
use Rattle.vault_rules.specs.Codes.{lead_of, natural}
use Rattle.vault_rules.specs.declared.rows.RawMerchant.{RawMerchant}

-- its lives, its moment and its lead
abbrev pub raw_lives : RawMerchant → Lives
raw_lives m = record {
  single_life = natural m.single_life;
  multi_life = natural m.multi_life;
  moment = natural m.moment;
  lead = lead_of m.lead;
}

-- a row has the lives, the moment and the lead of a merchant
pub record ShowsMerchant (m : RawMerchant) (merchant : Merchant) : Type 0 where
  pub single_life : m.single_life ≡ pos merchant.single_life
  pub multi_life : m.multi_life ≡ pos merchant.multi_life
  pub moment : m.moment ≡ pos merchant.moment
  pub lead : m.lead ≡ pos (lead_digits merchant.lead)
