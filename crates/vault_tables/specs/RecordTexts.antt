-- What the texts of records mean, in each schema, and how the table is read whole.
use Rattle.std.proofs.Common.{List, [], ◌∷◌, refl}
use Rattle.std.specs.Prelude.{string_bytes}
use Rattle.sqlite.specs.Listing.{understood}
use Rattle.sqlite.specs.Order.{Row}
use Rattle.sqlite.specs.Table.{Table}
use Rattle.sqlite.specs.Term.{lit, col}
use Rattle.sqlite.specs.declared.types.Value.TheVariants.{Null, Int, Text}
use Rattle.sqlite_schema.specs.declared.schema.Index.{Index}
use Rattle.sqlite_tied.specs.Compute.{everything}
use Rattle.sql_tables.proofs.Scans.{present_scan}
use Rattle.sql_tables.specs.Keyed.{finding}
use Rattle.sql_tables.specs.Scans.{Scan}
use Rattle.sql_tables.specs.Schema.{grown}
use Rattle.sql_tables.specs.Texts.{IsQuery, IsWrite, insert}
use Rattle.vault_rules.specs.declared.rows.RawRecord.{RawRecord}
use Rattle.vault_schema.proofs.Meanings.{whole_of}
use Rattle.vault_schema.specs.Records.{records}
use Rattle.vault_schema.specs.Schema.{newest_schema}
use Rattle.vault_schema.specs.Schemas.{v1}
use Rattle.vault_tables.specs.declared.records.TheConstants.{READ_RECORDS, FIND_RECORD, ADD_RECORD}

-- of `records`
abbrev pub record_values : RawRecord → Row
record_values r =
    Int r.rowid ∷ Text (string_bytes r.caller) ∷ Int r.request ∷ Text (string_bytes r.merchant)
    ∷ Text (string_bytes r.token) ∷ Int r.usage ∷ []

-- ---- the texts

module _ (ts : List Table) (is : List Index) where
  pub read_records_is : IsQuery (grown v1 ts is) READ_RECORDS.now (whole_of 8 5)
  unfolding understood everything
  read_records_is = record { names = _; is = refl; plain = (refl, refl); unlisted = refl }

  pub add_record_is : IsWrite (grown v1 ts is) ADD_RECORD.now
      (insert 4 6 (lit Null ∷ col 0 0 ∷ col 0 1 ∷ col 0 2 ∷ col 0 3 ∷ col 0 4 ∷ []))
  unfolding understood everything
  add_record_is = record { is = refl; plain = (refl, refl) }

pub record_is : IsQuery newest_schema FIND_RECORD.now (finding records 2)
unfolding understood everything
record_is = record { names = _; is = refl; plain = (refl, refl); unlisted = refl }

abbrev pub record_scan : Scan RawRecord
record_scan =
    present_scan record_values (λ r. r.rowid) (λ r. refl) v1 READ_RECORDS.now records 4 refl refl 4
    refl refl read_records_is
