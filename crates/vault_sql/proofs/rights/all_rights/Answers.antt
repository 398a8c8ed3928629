use Rattle.std.proofs.Common.{refl}
use Rattle.vault_schema.proofs.Newest.{right_table}
use Rattle.vault_tables.specs.RightTexts.{all_rights_is}
use Rattle.vault_sql.proofs.Calls.{tells}
use Rattle.vault_sql.proofs.Listed.{shows_all}
use Rattle.std.specs.FinMap as map
use Rattle.vault_sql.proofs.rights.all_rights.Goals as goal

pub returns : goal.returns
returns g c =
    tells all_rights_is c.rows_of.ensures.reads (λ rows. rows.items) _ c.rows_of.ensures.told
    (λ V cards pointing rows joined it shown.
    shows_all _ _ it _ rows.items shown right_table (map.get V.rights) (λ are. are) _ all_rights_is refl
    (λ k x. refl))
