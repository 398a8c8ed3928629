use Rattle.vault_schema.proofs.Newest.{behind_first, indexes_behind_first}
use Rattle.vault_tables.specs.CountTexts.{counts_is}
use Rattle.vault_sql.proofs.Calls.{tells}
use Rattle.vault_sql.proofs.Lookups.{shows_counts}
use Rattle.vault_sql.proofs.merchants.count_rows.Goals as goal

pub returns : goal.returns
returns g c =
    tells (counts_is behind_first indexes_behind_first) c.rows_of.ensures.reads
    (λ rows. rows.items) _ c.rows_of.ensures.told
    (λ V cards pointing rows joined it shown.
    shows_counts _ _ V cards pointing it rows.items c.args.m.now (rw (c.params-to_sql.ensures) at shown))
