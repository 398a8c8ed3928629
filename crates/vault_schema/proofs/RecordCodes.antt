-- Each record is told by its columns, and where its table stands.
use Rattle.std.proofs.Common.{refl, ap, ◌≡◌, [], ◌∷◌, sym}
use Rattle.sqlite.specs.Order.{column}
use Rattle.sql_tables.proofs.ByKey.{Coding}
use Rattle.sql_tables.proofs.Keys.{coding}
use Rattle.sql_tables.specs.Codes.{Codes}
use Rattle.sql_tables.specs.Keyed.{at_least}
use Rattle.sql_tables.specs.Maps.{Keyed}
use Rattle.vault_core.specs.Keys.{record_cmp}
use Rattle.vault_core.specs.declared.row.Record.{Record}
use Rattle.vault_schema.proofs.KeyColumns.{numbered_codes}
use Rattle.vault_schema.proofs.Placed.{coded, placed}
use Rattle.vault_schema.proofs.Values.{text_in, use_same}
use Rattle.vault_schema.specs.Records.{record_columns, record_row, records, ShowsRecord}
use Rattle.vault_schema.specs.Schemas.{v1}
use Rattle.vault_schema.specs.Values.{numbered_key}

pub record_codes : Codes record_cmp records.columns 2 numbered_key record_columns
record_codes = coded numbered_codes
    (λ x y e. λ i. record {
      merchant = text_in (column (e i) 0);
      token = text_in (column (e i) 1);
      usage = use_same x.usage y.usage (ap (λ r. column r 2) e) i;
    })
    (λ k x. refl)

abbrev pub records_in_first : Keyed v1 record_cmp numbered_key record_columns
records_in_first = placed records 4 1 record_codes refl refl refl refl

pub record_coding : Coding record_cmp record_row
record_coding = coding record_codes

-- and a row that shows a record tells it
pub record_told : (x y : Record) → ShowsRecord (at_least (record_columns x)) y → y ≡ x
record_told x y e =
    record_codes.value_back y x (λ i. sym e.merchant i ∷ sym e.token i ∷ sym e.usage i ∷ [])
