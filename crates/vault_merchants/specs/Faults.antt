-- The fault of a list of merchants: that of its first faulty place, in the order in which faults are looked
-- for.
use Rattle.std.specs.Prelude.{◌≡◌, ◌⊎◌, ℕ, ℤ, List, Option}
use Rattle.toml.specs.Data.{Data, Members}
use Rattle.vault_pan.specs.declared.lead.Lead.{Lead}
use Rattle.vault_core.specs.Keys.{Bytes}
use Rattle.vault_core.specs.Name.{IsName}
use Rattle.vault_refusal.specs.declared.refusal.Refusal.{Refusal}
use Rattle.vault_refusal.specs.declared.refusal.Refusal.TheVariants as refusal
use Rattle.vault_rights.specs.Faults.{IsDocument, IsFirstFault}
use Rattle.vault_merchants.specs.ListedMerchants.{AreLivesOf, IsRowOf, IsValueOf, Wanted}
use Rattle.vault_merchants.specs.declared.fault.MerchantsFault.{MerchantsFault}
use Rattle.vault_merchants.specs.declared.fault.MerchantsFault.TheVariants.{NotToml, BadName, WrongType}
use Rattle.vault_merchants.specs.declared.fault.MerchantsFault.TheVariants.{Memory, BadLife}

-- its refusal
abbrev pub refusal_of : MerchantsFault → Refusal
refusal_of NotToml = refusal.NotToml
refusal_of BadName = refusal.BadKey
refusal_of WrongType = refusal.WrongType
refusal_of Memory = refusal.RightsMemory
refusal_of BadLife = refusal.BadLives

-- the value is no table of exactly such whole numbers, and of a caller's name where it says who sweeps
abbrev pub IsOther : Data → Type 0
IsOther value = (single multi : ℤ) (lead : Option ℤ) (sweeper : Option Bytes)
    → ¬ IsValueOf value single multi lead sweeper

-- the value is such a table, and its numbers aren't two lives and a lead
abbrev pub IsOut : Data → Type 0
IsOut value = (single multi : ℤ) × (lead : Option ℤ) × (sweeper : Option Bytes)
    × IsValueOf value single multi lead sweeper
    × ((one more : ℕ) (shown : Lead) → ¬ AreLivesOf single multi lead one more shown)

-- a merchant's key is no name; else its value is no such table; else its numbers aren't lives and a lead
abbrev pub IsMerchantFault : Bytes → Data → MerchantsFault → Type 0
IsMerchantFault key value fault =
    (¬ IsName key × (fault ≡ BadName))
    ⊎ ((IsName key × IsOther value × (fault ≡ WrongType))
    ⊎ (IsName key × IsOut value × (fault ≡ BadLife)))

-- the key and its value are a row
abbrev pub IsProperMerchant : Bytes → Data → Type 0
IsProperMerchant key value = (row : Wanted) × IsRowOf key value row

-- the fault of the first faulty merchant
abbrev pub IsListFault : Members → MerchantsFault → Type 0
IsListFault document fault = IsFirstFault IsProperMerchant IsMerchantFault document fault

-- the text is no document; else the fault is the document's. That memory was refused says nothing of the text
abbrev pub IsFault : List ℕ → MerchantsFault → Type 0
IsFault text fault =
    (fault ≡ Memory)
    ⊎ ((((document : Members) → ¬ IsDocument text document) × (fault ≡ NotToml))
    ⊎ ((document : Members) × IsDocument text document × IsListFault document fault))
