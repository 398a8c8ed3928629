-- Why a batch stops, and why a row asks for nothing.
use Rattle.std.specs.Prelude.{◌≡◌, true, Result, Ok, Err}
use Rattle.vault_refusal.specs.declared.refusal.Refusal.{Refusal}
use Rattle.vault_refusal.specs.declared.refusal.Refusal.TheVariants as refusal
use Rattle.vault_engine.specs.Stops.{Failures}
use Rattle.vault_engine.specs.declared.stop.Stop.{Stop}
use Rattle.vault_engine.specs.declared.stop.Stop.TheVariants as stop
use Rattle.vault_batch.specs.declared.fault.BatchFault.{BatchFault}
use Rattle.vault_batch.specs.declared.fault.BatchFault.TheVariants as fault

-- the refusal that a fault is
abbrev pub refusal_of : BatchFault → Refusal
refusal_of fault.BadHeader = refusal.BadHeader
refusal_of fault.Read = refusal.BatchRead
refusal_of fault.Write = refusal.BatchWrite
refusal_of fault.Store = refusal.BatchStore
refusal_of fault.BadRecord = refusal.BadRecord
refusal_of fault.Memory = refusal.BatchMemory
refusal_of fault.Source = refusal.BatchSource

-- the fault of a batch that stops at a row
abbrev pub fault_of : Stop → BatchFault
fault_of stop.Source = fault.Source
fault_of stop.Read = fault.Read
fault_of stop.Write = fault.Write
fault_of stop.Store = fault.Store
fault_of stop.Memory = fault.Memory

-- A fault of the writer, the store or the source comes exactly where that one fails: it has failed now, and
-- all else is as it was. Of the reader nothing is told here.
abbrev pub Tells : {X : Type 0} → Result X BatchFault → Failures → Failures → Type 0
Tells (Ok x) old new = new ≡ old
Tells (Err fault.BadHeader) old new = new ≡ old
Tells (Err fault.Read) old new = new ≡ old
Tells (Err fault.Write) old new = new ≡ record old { writer = true }
Tells (Err fault.Store) old new = new ≡ record old { vault = true }
Tells (Err fault.BadRecord) old new = new ≡ old
Tells (Err fault.Memory) old new = new ≡ old
Tells (Err fault.Source) old new = new ≡ record old { source = true }
