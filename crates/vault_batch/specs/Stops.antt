-- A batch that was answered to its end, and where one stops.
use Rattle.std.specs.Prelude.{◌≢◌, ◌⊎◌, List, [], ◌∷◌, ◌++◌, length, Option}
use Rattle.vault_core.specs.Keys.{Bytes}
use Rattle.vault_engine.specs.Answered.{AnsweredBefore, CutAt, SilentAt, UndecidedAt}
use Rattle.vault_engine.specs.Passing.{Passage, Sends}
use Rattle.vault_batch.specs.Asking.{Asked, rows_by}
use Rattle.vault_batch.specs.Batched.{Answered, Counted, FirstLineCut, Unchanged, rows_of}
use Rattle.vault_batch.specs.Lines.{first_line}
use Rattle.vault_batch.specs.Rows.{AreRecordsOf, BeginRecordsOf, Fields, Row, fields_in, header}
use Rattle.vault_batch.specs.Rows.{records_with}
use Rattle.vault_batch.specs.declared.row_counts.Counts.{Counts}
use Rattle.vault_batch.specs.declared.fault.BatchFault.{BatchFault}
use Rattle.vault_batch.specs.declared.fault.BatchFault.TheVariants as fault
use Rattle.vault_batch.specs.declared.asker.Asker.{Asker}
use Rattle.vault_wire.specs.Watching.{inner_of}
use Rattle.vault_wire.specs.declared.watched.Watched.{Watched}

-- bytes as a reader has them left
abbrev Left : Type 0
Left = Option Bytes

-- the bytes are the header and these rows, and all of them are answered
pub record IsBatched (left : Left) (w : Passage) (who : Asker) (counts : Counts) : Type 0 where
  pub rows : List Asked
  pub records : AreRecordsOf left (records_with (rows_of rows))
  pub answered : Answered who first_line w rows
  pub counted : Counted w rows counts

-- there is no record, or the first one isn't the header
abbrev pub HasNoHeader : Left → Type 0
HasNoHeader left =
    AreRecordsOf left []
    ⊎ ((first : Fields) × BeginRecordsOf left (first ∷ []) × (first ≢ fields_in header))

-- the bytes begin with the header and some rows, and these are answered
pub record StopsAfter (left : Left) (w : Passage) (who : Asker) : Type 0 where
  pub rows : List Asked
  pub records : BeginRecordsOf left (records_with (rows_of rows))
  pub answered : Answered who first_line w rows

-- nothing went out, and nothing changed
abbrev pub StopsAtOnce : Passage → Type 0
StopsAtOnce w = Sends w [] × Unchanged w

-- some rows are answered, and the next record hasn't three fields
pub record StopsAtRecord (left : Left) (w : Passage) (who : Asker) : Type 0 where
  pub rows : List Asked
  pub bad : Fields
  pub records : BeginRecordsOf left (records_with (rows_of rows) ++ bad ∷ [])
  pub wrong : length bad ≢ 3
  pub answered : Answered who first_line w rows

-- some rows are answered, and there is a next one for which the source has no pair
pub record StopsAtSource (left : Left) (w : Passage) (who : Asker) : Type 0 where
  pub rows : List Asked
  pub next : Row
  pub records : BeginRecordsOf left (records_with (rows_of rows) ++ fields_in next ∷ [])
  pub answered : Answered who first_line w rows

-- some rows are answered, and of the next one this is known
abbrev pub StopsAt : (List Asked → Asked → Type 0) → Left → Type 0
StopsAt known left =
    (rows : List Asked) × (next : Asked)
    × BeginRecordsOf left (records_with (rows_of rows) ++ fields_in next.unit ∷ [])
    × known rows next

-- some rows are answered, and memory was refused before the next one was decided
abbrev pub StopsBefore : Left → Passage → Asker → Type 0
StopsBefore left w who =
    (rows : List Asked) × BeginRecordsOf left (records_with (rows_of rows))
    × AnsweredBefore (rows_by who) first_line w rows

-- where a batch stopped, by its fault
abbrev pub Stops : Left → Passage → Asker → BatchFault → Type 0
Stops left w who fault.BadHeader = StopsAtOnce w × HasNoHeader left
Stops left w who fault.Read = StopsAtOnce w ⊎ StopsAfter left w who
Stops left w who fault.Write = FirstLineCut w ⊎ StopsAt (CutAt (rows_by who) first_line w) left
Stops left w who fault.Store = StopsAt (UndecidedAt (rows_by who) first_line w) left
Stops left w who fault.BadRecord = StopsAtRecord left w who
Stops left w who fault.Memory =
    StopsAtOnce w ⊎ StopsBefore left w who ⊎ StopsAt (SilentAt (rows_by who) first_line w) left
Stops left w who fault.Source = StopsAtSource left w who

-- a caller, and the merchant at which it asks for tokens
abbrev pub asker_of : Bytes × Bytes → Asker
asker_of who = record { caller = who.0; merchant = who.1 }

-- what the reader underneath had left is answered to its end, as rows of this caller and merchant
abbrev pub IsBatchedFor : {R : Type 0} → (R → Left) → Watched R → Bytes × Bytes → Passage → Counts → Type 0
IsBatchedFor remaining reader who w counts = IsBatched (remaining (inner_of reader)) w (asker_of who) counts

-- where a batch of what it had left stopped, by its fault
abbrev pub StopsFor : {R : Type 0} → (R → Left) → Watched R → Bytes × Bytes → Passage → BatchFault → Type 0
StopsFor remaining reader who w fault = Stops (remaining (inner_of reader)) w (asker_of who) fault
