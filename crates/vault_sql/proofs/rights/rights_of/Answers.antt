use Rattle.vault_sql.proofs.ListedShown.{rights_gathered}
use Rattle.vault_sql.proofs.rights.rights_of.Goals as goal

pub returns : goal.returns
returns c V shown =
    c.in_ok-rows_of.ensures V.rights
    (rights_gathered c.args.rows.now V c.in_ok-found.found shown c.in_ok-found.ensures)
