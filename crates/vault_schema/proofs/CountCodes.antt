-- Each count is told by its columns, and where its table stands.
use Rattle.std.proofs.Common.{refl, ap}
use Rattle.sqlite.specs.Order.{column}
use Rattle.sql_tables.proofs.ByKey.{Coding}
use Rattle.sql_tables.proofs.Keys.{coding}
use Rattle.sql_tables.specs.Codes.{Codes}
use Rattle.sql_tables.specs.Maps.{Keyed}
use Rattle.vault_core.specs.Keys.{record_cmp}
use Rattle.vault_schema.proofs.KeyColumns.{numbered_codes}
use Rattle.vault_schema.proofs.Placed.{coded, placed}
use Rattle.vault_schema.proofs.Values.{number_in}
use Rattle.vault_schema.specs.Counts.{count_row, counts}
use Rattle.vault_schema.specs.Schemas.{v1}
use Rattle.vault_schema.specs.Values.{numbered_key, number_column}

pub count_codes : Codes record_cmp counts.columns 2 numbered_key number_column
count_codes = coded numbered_codes
    (λ x y e. ap (λ r. number_in (column r 0)) e)
    (λ k x. refl)

abbrev pub counts_in_first : Keyed v1 record_cmp numbered_key number_column
counts_in_first = placed counts 2 1 count_codes refl refl refl refl

pub count_coding : Coding record_cmp count_row
count_coding = coding count_codes
