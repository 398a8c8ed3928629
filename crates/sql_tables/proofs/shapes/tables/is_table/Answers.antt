use Rattle.sql_tables.proofs.Parts.{whole, parts}
use Rattle.sql_tables.proofs.shapes.tables.is_table.Goals as goal

pub returns : goal.returns
returns c =
    ((λ is. whole _ _ (c.has_parts.ensures.0 is)), (λ same. c.has_parts.ensures.1 (parts _ _ same)))
