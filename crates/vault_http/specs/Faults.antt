-- Why a service stops.
pub use Rattle.vault_engine.specs.Stops.{Failures, Tells, failures, failures_of, failures_unread}
use Rattle.vault_engine.specs.declared.stop.Stop.{Stop}
use Rattle.vault_engine.specs.declared.stop.Stop.TheVariants.{Source, Read, Write, Store, Memory}
use Rattle.vault_refusal.specs.declared.refusal.Refusal.{Refusal}
use Rattle.vault_refusal.specs.declared.refusal.Refusal.TheVariants as refusal

-- the refusal that its stop is
abbrev pub refusal_of : Stop → Refusal
refusal_of Source = refusal.ServiceSource
refusal_of Read = refusal.ServiceRead
refusal_of Write = refusal.ServiceWrite
refusal_of Store = refusal.ServiceStore
refusal_of Memory = refusal.ServiceMemory
