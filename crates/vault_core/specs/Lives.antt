-- A merchant without its counts: how long its tokens live, how many digits its masks show, and its moment.
use Rattle.std.specs.Prelude.{ℕ, Option, Some, None}
use Rattle.vault_pan.specs.declared.lead.Lead.{Lead}
use Rattle.vault_pan.specs.declared.lead.Lead.TheVariants.{Six}
use Rattle.vault_core.specs.Keys.{Bytes}
use Rattle.vault_core.specs.Scalar.{IsLife}
use Rattle.vault_core.specs.Vault.{Merchant}
use Rattle.vault_core.specs.declared.command.Command.{Command}
use Rattle.vault_core.specs.declared.command.Command.TheVariants.{SetMerchant}
use Rattle.vault_core.specs.declared.row.Lives.{Lives}
use Rattle.vault_core.specs.declared.row.MerchantRow.{MerchantRow}

-- the parts of a SetMerchant but its merchant; the moment is the one handed in
abbrev pub handed_lives : ℕ → ℕ → Lead → ℕ → Lives
handed_lives single multi lead now =
    record { single_life = single; multi_life = multi; moment = now; lead = lead }

-- those of masks with six digits at the left
abbrev pub usual_lives : ℕ → ℕ → ℕ → Lives
usual_lives single multi now = handed_lives single multi Six now

-- the command that sets a merchant to these
abbrev pub setting : Bytes → Lives → Command
setting m x = SetMerchant m x.single_life x.multi_life x.lead x.moment

-- the merchant that a command sets, and to which lives, where it is a SetMerchant
abbrev pub setting_in : Command → Option (Bytes × Lives)
setting_in (SetMerchant m single multi lead now) = Some (m, handed_lives single multi lead now)
setting_in c = None

-- the lives of both uses are lives
abbrev pub AreLives : Lives → Type 0
AreLives x = IsLife x.single_life × IsLife x.multi_life

-- those of a merchant
abbrev pub lives_in : Merchant → Lives
lives_in merchant = record {
  single_life = merchant.single_life;
  multi_life = merchant.multi_life;
  moment = merchant.moment;
  lead = merchant.lead;
}

-- a merchant of these, and of its counts of numbers given and denied
abbrev pub counted_merchant : Lives → ℕ → ℕ → Merchant
counted_merchant x given denied = record {
  single_life = x.single_life;
  multi_life = x.multi_life;
  lead = x.lead;
  moment = x.moment;
  given = given;
  denied = denied;
}

-- a new merchant
abbrev pub new_merchant : Lives → Merchant
new_merchant x = counted_merchant x 0 0

-- a merchant with these in place of its own
abbrev pub with_lives : Lives → Merchant → Merchant
with_lives x old = counted_merchant x old.given old.denied

-- those of a merchant's row
abbrev pub row_lives : MerchantRow → Lives
row_lives row = record {
  single_life = row.single_life;
  multi_life = row.multi_life;
  moment = row.moment;
  lead = row.lead;
}

-- a merchant's row, of these and of its counts of tokens made, numbers given and numbers denied
abbrev pub counted_row : Lives → ℕ → ℕ → ℕ → MerchantRow
counted_row x made_count given denied = record {
  single_life = x.single_life;
  multi_life = x.multi_life;
  lead = x.lead;
  moment = x.moment;
  made = made_count;
  given = given;
  denied = denied;
}
