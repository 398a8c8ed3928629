use Rattle.vault_tables.proofs.Told.{tables_so}
use Rattle.vault_tables.proofs.counts.made_rowid.Goals as goal

pub returns-in-Some : goal.returns-in-Some
returns-in-Some g c = tables_so c.in_ok-rows.ensures (λ t told. tt)

pub returns : goal.returns
returns g c = tables_so c.in_ok-rows.ensures (λ t told. tt)
