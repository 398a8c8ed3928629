-- What stops a job.
use Rattle.std.specs.Prelude.{◌≡◌, Bool, true}
use Rattle.std.specs.declared.io.ErrorKind.TheVariants as kind
use Rattle.vault_refusal.specs.declared.refusal.Refusal.{Refusal}
use Rattle.vault_refusal.specs.declared.refusal.Refusal.TheVariants as refusal
use Rattle.vault_store.specs.Applied as vault
use Rattle.vault_batch.specs.Faults as batch
use Rattle.vault_batch.specs.Stops.{HasNoHeader}
use Rattle.vault_batch.specs.declared.fault.BatchFault.{BatchFault}
use Rattle.vault_batch.specs.declared.fault.BatchFault.TheVariants as row
use Rattle.vault_http.specs.Faults as service
use Rattle.vault_engine.specs.declared.stop.Stop.{Stop as ServeFault}
use Rattle.vault_engine.specs.declared.stop.Stop.TheVariants as fault
use Rattle.vault_listen.specs.Faults as listener
use Rattle.vault_jobs.specs.Batched.{HasBadRecord}
use Rattle.vault_jobs.specs.Streams.{Streams}
use Rattle.vault_jobs.specs.declared.stop.Stop.{Stop}
use Rattle.vault_jobs.specs.declared.stop.Stop.TheVariants.{Vault, Service, Listener, Unread, Batch}

-- the refusal that stopped a job
abbrev pub refusal_of : Stop → Refusal
refusal_of (Vault f) = vault.refusal_of f
refusal_of (Service f) = service.refusal_of f
refusal_of (Listener f) = listener.refusal_of f
refusal_of (Batch f) = batch.refusal_of f
refusal_of (Unread about kind.OutOfMemory) = refusal.RightsMemory
refusal_of (Unread about refused) = refusal.Accept

-- a service is stopped by its reader only where that failed, and by its writer only where that failed
abbrev pub IsCause : ServeFault → Bool → Bool → Type 0
IsCause fault.Read reader writer = reader ≡ true
IsCause fault.Write reader writer = writer ≡ true
IsCause fault.Source reader writer = Unit {0}
IsCause fault.Store reader writer = Unit {0}
IsCause fault.Memory reader writer = Unit {0}

-- and so is a batch; and by its bytes only where they are no batch
abbrev pub IsBatchCause : BatchFault → Streams → Type 0
IsBatchCause row.BadHeader s = HasNoHeader s.left_old
IsBatchCause row.Read s = s.reader ≡ true
IsBatchCause row.Write s = s.writer ≡ true
IsBatchCause row.Store s = Unit {0}
IsBatchCause row.BadRecord s = HasBadRecord s.left_old
IsBatchCause row.Memory s = Unit {0}
IsBatchCause row.Source s = Unit {0}

-- the reader or the writer stops a job only where it failed, and the rows of a batch only where they are none
abbrev pub IsCauseOf : Stop → Streams → Type 0
IsCauseOf (Vault f) s = Unit {0}
IsCauseOf (Service f) s = IsCause f s.reader s.writer
IsCauseOf (Listener f) s = Unit {0}
IsCauseOf (Unread about f) s = Unit {0}
IsCauseOf (Batch f) s = IsBatchCause f s
