use Rattle.vault_schema.proofs.Newest.{behind_first, indexes_behind_first}
use Rattle.vault_tables.specs.CountTexts.{count_id_is}
use Rattle.vault_tables.proofs.Told.{tells_tables}
use Rattle.vault_tables.proofs.counts.made_rows.Goals as goal

pub returns : goal.returns
returns g c =
    tells_tables (count_id_is behind_first indexes_behind_first) c.rows_of.ensures.reads
    (λ rows. rows.items) _ c.rows_of.ensures.told (λ t rows it shown. tt)
