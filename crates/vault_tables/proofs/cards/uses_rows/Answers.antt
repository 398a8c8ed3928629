use Rattle.std.proofs.Common.{w64}
use Rattle.std.proofs.lemmas.Int.{to_z-of_z}
use Rattle.vault_tables.proofs.Places.{uses_is_at}
use Rattle.vault_tables.proofs.Calls.{rows_tell}
use Rattle.vault_tables.proofs.Shown.{shows_uses}
use Rattle.vault_tables.proofs.cards.uses_rows.Goals as goal

pub returns : goal.returns
returns g c =
    rows_tell g.S.Store uses_is_at c.rows_in.ensures.goes_on _ c.rows_in.ensures.told c.rows_in.ensures.kept
    (λ v t rows it shown. shows_uses v t _ _ it rows.items c.args.id
    (rw (c.params-to_sql.ensures, to_z-of_z w64 c.args.id c.ranges.id) at shown))
