-- What is done with the rows of standard input.
use Rattle.std.specs.Prelude.{◌≡◌, ◌≢◌, ◌⊎◌, List, [], ◌∷◌, ◌++◌, length}
use Rattle.vault_engine.specs.Passing.{Passage}
use Rattle.vault_batch.specs.Rows.{BeginRecordsOf, Fields, Row, records_with}
use Rattle.vault_batch.specs.Stops.{IsBatched, Stops}
use Rattle.vault_batch.specs.declared.asker.Asker.{Asker}
use Rattle.vault_batch.specs.declared.row_counts.Counts.{Counts}
use Rattle.vault_batch.specs.declared.fault.BatchFault.{BatchFault}
use Rattle.vault_batch.specs.declared.fault.BatchFault.TheVariants.{Write}
use Rattle.vault_jobs.specs.Streams.{Known}

-- the batch stopped; or it came to its end, and what had gone out couldn't be handed on
abbrev pub StopsBatch : Known → Passage → Asker → BatchFault → Type 0
StopsBatch left w who e =
    Stops left w who e ⊎ ((e ≡ Write) × ((counts : Counts) × IsBatched left w who counts))

-- after the header and some rows there is a record that hasn't three fields
abbrev pub HasBadRecord : Known → Type 0
HasBadRecord left = (rows : List Row) × (bad : Fields)
    × BeginRecordsOf left (records_with rows ++ bad ∷ []) × (length bad ≢ 3)
