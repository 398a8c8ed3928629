use Rattle.vault_tables.specs.MerchantTexts.{how_many_is}
use Rattle.vault_sql.proofs.Calls.{tells}
use Rattle.vault_sql.proofs.Lookups.{shows_how_many}
use Rattle.vault_sql.proofs.merchants.how_many_rows.Goals as goal

pub returns : goal.returns
returns g c =
    tells how_many_is c.rows_of.ensures.reads (λ rows. rows.items) _ c.rows_of.ensures.told
    (λ V cards pointing rows joined it shown. shows_how_many _ _ V cards pointing it rows.items shown)
