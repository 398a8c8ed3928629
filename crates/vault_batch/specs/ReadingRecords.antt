-- Where a reader of records stands in known bytes.
use Rattle.std.specs.Prelude.{◌≡◌, List, [], ◌∷◌, ◌++◌, Bool, true, false, Option, Some, None}
use Rattle.csv.specs.Reading.{Reached, Ready, default_config, reader_config, reader_state, reader_trim}
use Rattle.csv.specs.Reading.{source_of, strip_bom}
use Rattle.csv.specs.declared.parser.State.TheVariants.{StartRecord}
use Rattle.csv.specs.declared.reader.Reader.{Reader}
use Rattle.csv.specs.declared.reader.Trim.TheVariants as trim
use Rattle.vault_core.specs.Keys.{Bytes}
use Rattle.vault_batch.specs.Rows.{Fields, AreRecordsOf}

-- the reader gave these records of the known bytes, and has the others still
abbrev pub HasGiven : {R : Type 0} → Option Bytes → (R → Option Bytes) → List Fields → Reader R → Type 0
HasGiven None remaining records reader = Unit {0}
HasGiven (Some bytes) remaining records reader =
    (rest : Bytes) × (source_of remaining reader ≡ Some rest)
    × Reached default_config StartRecord (strip_bom bytes) records (reader_state reader) rest

-- it reads by the default settings, each record as data, and gave these
pub record StandsAfter {R : Type 0} (known : Option Bytes) (remaining : R → Option Bytes)
    (records : List Fields) (reader : Reader R) : Type 0 where
  pub plain : reader_config reader ≡ default_config
  pub whole : reader_trim reader ≡ trim.None
  pub ready : Ready reader
  pub gave : HasGiven known remaining records reader

-- it gave one more record, or there is none
abbrev pub StandsNext : {R : Type 0} → Option Bytes → (R → Option Bytes) → List Fields → Fields → Reader R
    → Bool → Type 0
StandsNext known remaining records fields reader true =
    StandsAfter known remaining (records ++ fields ∷ []) reader
StandsNext known remaining records fields reader false = AreRecordsOf known records
