use Rattle.vault_schema.proofs.Newest.{behind_second, indexes_behind_second}
use Rattle.vault_tables.specs.CardTexts.{card_is}
use Rattle.vault_tables.proofs.Told.{tells_tables}
use Rattle.vault_tables.proofs.ShownCards.{shows_card}
use Rattle.vault_tables.proofs.cards.card_rows.Goals as goal

pub returns : goal.returns
returns g c =
    tells_tables (card_is behind_second indexes_behind_second) c.rows_of.ensures.reads
    (λ rows. rows.items) _ c.rows_of.ensures.told
    (λ t rows it shown.
    shows_card _ _ it rows.items c.args.m.now c.args.number.now
    (rw (c.params-to_sql.ensures, c.params-to_sql-2.ensures) at shown))
