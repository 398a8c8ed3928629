use Rattle.std.proofs.Common.{option_map, refl}
use Rattle.vault_core.specs.Vault.{merchant_at}
use Rattle.vault_core.specs.Lives.{lives_in}
use Rattle.vault_schema.proofs.Newest.{merchant_table}
use Rattle.vault_tables.specs.MerchantTexts.{all_merchants_is}
use Rattle.vault_sql.proofs.Calls.{tells}
use Rattle.vault_sql.proofs.Listed.{shows_all}
use Rattle.vault_sql.proofs.merchants.all_merchants.Goals as goal

pub returns : goal.returns
returns g c =
    tells all_merchants_is c.rows_of.ensures.reads (λ rows. rows.items) _ c.rows_of.ensures.told
    (λ V cards pointing rows joined it shown.
    shows_all _ _ it _ rows.items shown merchant_table (λ m. option_map lives_in (merchant_at V m))
    (λ are. are) _ all_merchants_is refl (λ k x. refl))
