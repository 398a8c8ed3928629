use Rattle.std.proofs.Common.{w64}
use Rattle.std.proofs.lemmas.Int.{to_z-of_z}
use Rattle.vault_schema.proofs.Newest.{behind_second, indexes_behind_second}
use Rattle.vault_tables.specs.CardTexts.{number_is}
use Rattle.vault_tables.proofs.Told.{tells_tables}
use Rattle.vault_tables.proofs.ShownCards.{shows_number}
use Rattle.vault_tables.proofs.cards.number_rows.Goals as goal

pub returns : goal.returns
returns g c =
    tells_tables (number_is behind_second indexes_behind_second) c.rows_of.ensures.reads
    (λ rows. rows.items) _ c.rows_of.ensures.told
    (λ t rows it shown. shows_number _ _ it rows.items c.args.id
    (rw (c.params-to_sql.ensures, to_z-of_z w64 c.args.id c.ranges.id) at shown))
