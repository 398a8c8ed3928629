use Rattle.sql_tables.proofs.Calls.{small}
use Rattle.vault_schema.proofs.Newest.{behind_second, indexes_behind_second}
use Rattle.vault_tables.specs.EntryTexts.{dead_is}
use Rattle.vault_sql.proofs.Calls.{tells}
use Rattle.vault_sql.proofs.Dead.{shows_dead}
use Rattle.vault_schema.specs.Stands.{lookups_of}
use Rattle.vault_schema.specs.Versions.{tables_of}
use Rattle.vault_sql.proofs.entries.dead_rows.Goals as goal

pub returns : goal.returns
returns g c =
    tells (dead_is behind_second indexes_behind_second) c.rows_of.ensures.reads
    (λ rows. rows.items) _ c.rows_of.ensures.told
    (λ V cards pointing rows joined it shown. λ none now is.
    shows_dead V c.args.m.now (tables_of (lookups_of V) cards pointing) joined c.args.at c.args.from.now none
    _ _ it c.args.many now is
    rows.items
    (rw (
      c.params-to_sql.ensures,
      c.params-to_sql-2.ensures,
      c.params-to_sql-3.ensures,
      c.params-to_sql-4.ensures,
      small _ c.requires.at,
      small _ c.requires.many,
    ) at shown))
