-- The records of a batch: a header, and rows of three fields.
use Rattle.std.specs.Prelude.{List, [], ◌∷◌, map, codes, Option, Some, None}
use Rattle.csv.specs.Reading.{AreRecords, Reached, default_config, strip_bom}
use Rattle.csv.specs.declared.parser.State.{State}
use Rattle.csv.specs.declared.parser.State.TheVariants.{StartRecord}
use Rattle.vault_core.specs.Keys.{Bytes}
use Rattle.vault_batch.specs.declared.row.Row.{Row as RowText}

-- the fields of a record
abbrev pub Fields : Type 0
Fields = List Bytes

-- a row, by the texts of its three fields
pub record Row : Type 0 where
  pub request : Bytes
  pub number : Bytes
  pub usage : Bytes

-- the row that a value shows
abbrev pub row_of : RowText → Row
row_of r = record { request = r.request.now; number = r.number.now; usage = r.usage.now }

-- the fields of a row
abbrev pub fields_in : Row → Fields
fields_in r = r.request ∷ r.number ∷ r.usage ∷ []

-- what stands before all rows
abbrev pub header : Row
header = record { request = codes "request"; number = codes "number"; usage = codes "use" }

-- the records of the header and these rows
abbrev pub records_with : List Row → List Fields
records_with rows = map fields_in (header ∷ rows)

-- The records of known bytes are these and no more, as csv reads them by its default settings; one byte
-- order mark, EF BB BF, may stand before them. Of bytes that aren't known nothing is said.
abbrev pub AreRecordsOf : Option Bytes → List Fields → Type 0
AreRecordsOf None records = Unit {0}
AreRecordsOf (Some bytes) records = AreRecords default_config StartRecord (strip_bom bytes) records

-- the records of known bytes begin with these
abbrev pub BeginRecordsOf : Option Bytes → List Fields → Type 0
BeginRecordsOf None records = Unit {0}
BeginRecordsOf (Some bytes) records =
    (state : State) × (rest : Bytes) × Reached default_config StartRecord (strip_bom bytes) records state rest
