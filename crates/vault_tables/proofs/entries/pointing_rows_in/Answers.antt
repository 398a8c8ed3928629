use Rattle.vault_tables.proofs.Calls.{rows_tell}
use Rattle.vault_tables.proofs.Places.{entry_is_at}
use Rattle.vault_tables.proofs.Shown.{shows_pointing}
use Rattle.vault_tables.proofs.entries.pointing_rows_in.Goals as goal

pub returns : goal.returns
returns g c =
    rows_tell g.S.Store entry_is_at c.rows_in.ensures.goes_on _ c.rows_in.ensures.told c.rows_in.ensures.kept
    (λ v t rows it shown. shows_pointing v t _ _ it rows.items (c.args.m.now, c.args.token.now)
    (rw (c.params-to_sql.ensures, c.params-to_sql-2.ensures) at shown))
