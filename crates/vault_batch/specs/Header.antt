-- How a batch begins: the header is read, and the first line goes out.
use Rattle.std.specs.Prelude.{◌<◌, ℕ, [], ◌∷◌, length, take, Option, Result, Ok, Err}
use Rattle.std.specs.Io.KnownBytes.{Appends}
use Rattle.csv.specs.declared.reader.Reader.{Reader}
use Rattle.vault_core.specs.Keys.{Bytes}
use Rattle.vault_batch.specs.Lines.{first_line}
use Rattle.vault_batch.specs.ReadingRecords.{StandsAfter}
use Rattle.vault_batch.specs.Rows.{fields_in, header}
use Rattle.vault_batch.specs.Stops.{HasNoHeader}
use Rattle.vault_batch.specs.declared.fault.BatchFault.{BatchFault}
use Rattle.vault_batch.specs.declared.fault.BatchFault.TheVariants as fault

-- the header was read, or it isn't there
abbrev pub Begins : {X R : Type 0} → Option Bytes → (R → Option Bytes) → Reader R → Result X BatchFault
    → Type 0
Begins known remaining reader (Ok x) = StandsAfter known remaining (fields_in header ∷ []) reader
Begins known remaining reader (Err fault.BadHeader) = HasNoHeader known
Begins known remaining reader (Err fault.Read) = Unit {0}
Begins known remaining reader (Err fault.Write) = Unit {0}
Begins known remaining reader (Err fault.Store) = ⊥
Begins known remaining reader (Err fault.BadRecord) = ⊥
Begins known remaining reader (Err fault.Memory) = Unit {0}
Begins known remaining reader (Err fault.Source) = ⊥

-- the first line went out; or a beginning of it and not all, where the writer failed; or nothing
abbrev pub SendsFirst : {X : Type 0} → Option Bytes → Option Bytes → Result X BatchFault → Type 0
SendsFirst old new (Ok x) = Appends old new first_line
SendsFirst old new (Err fault.BadHeader) = Appends old new []
SendsFirst old new (Err fault.Read) = Appends old new []
SendsFirst old new (Err fault.Write) =
    (sent : ℕ) × (sent < length first_line) × Appends old new (take sent first_line)
SendsFirst old new (Err fault.Store) = ⊥
SendsFirst old new (Err fault.BadRecord) = ⊥
SendsFirst old new (Err fault.Memory) = Appends old new []
SendsFirst old new (Err fault.Source) = ⊥
