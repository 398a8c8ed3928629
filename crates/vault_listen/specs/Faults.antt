-- Why a service over a listener ends before its last connection.
use Rattle.vault_refusal.specs.declared.refusal.Refusal.{Refusal}
use Rattle.vault_refusal.specs.declared.refusal.Refusal.TheVariants as refusal
use Rattle.vault_listen.specs.declared.fault.ListenFault.{ListenFault}
use Rattle.vault_listen.specs.declared.fault.ListenFault.TheVariants.{Source, Store, Memory, Accept}

-- the refusal that a fault is
abbrev pub refusal_of : ListenFault → Refusal
refusal_of Source = refusal.ServiceSource
refusal_of Store = refusal.ServiceStore
refusal_of Memory = refusal.ServiceMemory
refusal_of Accept = refusal.Accept
