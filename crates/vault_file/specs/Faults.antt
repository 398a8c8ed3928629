-- The refusals of a file.
use Rattle.std.specs.Prelude.{ℤ, pos, List, ℕ, [], codes, decimal, ◌++◌, Option, Some, None}
use Rattle.std.specs.Fmt.{signed_decimal}
use Rattle.vault_refusal.specs.Refusal.{number_of}
use Rattle.vault_refusal.specs.declared.refusal.Refusal.{Refusal}
use Rattle.vault_refusal.specs.declared.refusal.Refusal.TheVariants as refusal
use Rattle.vault_file.specs.declared.fault.NotOpened.{NotOpened}
use Rattle.vault_file.specs.declared.fault.NotOpened.TheVariants.{Refused, Fault}
use Rattle.vault_recover.specs.declared.unopened.Unopened.{Unopened}
use Rattle.vault_verdict.specs.Faults as opening
use Rattle.vault_verdict.specs.declared.fault.OpenFault.TheVariants.{WrongSchema, Damaged, Memory, Store}

-- the refusal that it is
abbrev pub refusal_of : NotOpened → Refusal
refusal_of (Refused cause) = refusal.FileRefused
refusal_of (Fault fault) = opening.refusal_of fault

-- it is 34
abbrev pub IsRefusal : NotOpened → Type 0
IsRefusal (Refused cause) = Unit {0}
IsRefusal (Fault fault) = ⊥

-- with 34, this is so of the cause
abbrev pub IfRefused : NotOpened → (Unopened → Type 0) → Type 0
IfRefused (Refused cause) Is = Is cause
IfRefused (Fault fault) Is = Unit {0}

-- it is 34 for a cause of which this is so
abbrev pub IsRefusedBy : (Unopened → Type 0) → NotOpened → Type 0
IsRefusedBy Is (Refused cause) = Is cause
IsRefusedBy Is (Fault fault) = ⊥

-- the version that the file says, or the rule that its rows break
abbrev pub detail_of : NotOpened → Option ℤ
detail_of (Refused cause) = None
detail_of (Fault (WrongSchema version)) = Some version
detail_of (Fault (Damaged rule)) = Some (pos rule)
detail_of (Fault Memory) = None
detail_of (Fault Store) = None

-- a version or a rule, as it goes with a number
abbrev pub detail_text : Option ℤ → List ℕ
detail_text None = []
detail_text (Some m) = codes " " ++ signed_decimal m

-- both in words
abbrev pub words_of : NotOpened → List ℕ
words_of fault = decimal (number_of (refusal_of fault)) ++ detail_text (detail_of fault)
