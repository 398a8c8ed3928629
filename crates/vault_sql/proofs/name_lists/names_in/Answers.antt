use Rattle.vault_sql.proofs.ListedShown.{names_gathered}
use Rattle.vault_sql.proofs.name_lists.names_in.Goals as goal

pub returns : goal.returns
returns c V shown =
    c.in_ok-names_of.ensures V
    (names_gathered c.args.rows.now V c.in_ok-found.found shown c.in_ok-found.ensures)
