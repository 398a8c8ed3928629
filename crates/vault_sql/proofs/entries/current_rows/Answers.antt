use Rattle.std.proofs.Common.{w64}
use Rattle.std.proofs.lemmas.Int.{to_z-of_z}
use Rattle.sql_tables.proofs.Calls.{small}
use Rattle.vault_schema.proofs.Newest.{behind_second, indexes_behind_second}
use Rattle.vault_tables.specs.EntryTexts.{current_is}
use Rattle.vault_tables.proofs.Told.{tells_tables}
use Rattle.vault_sql.proofs.Current.{shows_current}
use Rattle.vault_sql.proofs.entries.current_rows.Goals as goal

pub returns : goal.returns
returns g c =
    tells_tables (current_is behind_second indexes_behind_second) c.rows_of.ensures.reads
    (λ rows. rows.items) _ c.rows_of.ensures.told
    (λ t rows it shown. λ V pan has sound now.
    shows_current V t has.joined c.args.m.now pan c.args.at c.args.id has.card.0 has.card.1 _ _ it sound now
    rows.items
    (rw (to_z-of_z w64 c.args.id c.ranges.id, small _ c.requires) at
    (rw (c.params-to_sql.ensures, c.params-to_sql-2.ensures, c.params-to_sql-3.ensures) at shown)))
