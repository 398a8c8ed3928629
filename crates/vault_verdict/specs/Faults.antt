-- The refusals of an open.
use Rattle.vault_refusal.specs.declared.refusal.Refusal.{Refusal}
use Rattle.vault_refusal.specs.declared.refusal.Refusal.TheVariants as refusal
use Rattle.vault_verdict.specs.declared.fault.OpenFault.{OpenFault}
use Rattle.vault_verdict.specs.declared.fault.OpenFault.TheVariants.{WrongSchema, Damaged, Memory, Store}
use Rattle.sql_tables.specs.declared.fault.StoreFault.{StoreFault}
use Rattle.sql_tables.specs.declared.fault.StoreFault.TheVariants as read

-- the refusal that a fault is
abbrev pub refusal_of : OpenFault → Refusal
refusal_of (WrongSchema version) = refusal.WrongSchema
refusal_of (Damaged rule) = refusal.Damaged
refusal_of Memory = refusal.OpenMemory
refusal_of Store = refusal.OpenStore

-- a refusal of what was read, and not a failure to read it: 30 or 31
abbrev pub IsJudged : OpenFault → Type 0
IsJudged (WrongSchema version) = Unit {0}
IsJudged (Damaged rule) = Unit {0}
IsJudged Memory = ⊥
IsJudged Store = ⊥

-- a reading that failed says nothing of the schema or the rows
abbrev pub failure : StoreFault → OpenFault
failure read.Memory = Memory
failure read.Store = Store
