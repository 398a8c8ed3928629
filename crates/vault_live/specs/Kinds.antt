-- Kinds of lists that are followed: which rows a text names, and which commands they ask for.
use Rattle.std.specs.Prelude.{◌≡◌, ◌≢◌, ℕ, All, List, true}
use Rattle.vault_core.specs.Proper.{AllProper}
use Rattle.vault_core.specs.Table.{after, reply}
use Rattle.vault_core.specs.Vault.{Vault as Content}
use Rattle.vault_core.specs.declared.command.Command.{Command}
use Rattle.vault_core.specs.declared.reply.Reply.TheVariants as answer
use Rattle.vault_merchants.specs.Faults as merchants
use Rattle.vault_merchants.specs.ListedMerchants.{Wanted}
use Rattle.vault_merchants.specs.declared.fault.MerchantsFault.{MerchantsFault}
use Rattle.vault_refusal.specs.Refusal.{number_of}
use Rattle.vault_refusal.specs.declared.refusal.Refusal.TheVariants.{NoMerchant, RightsMemory, TooManyMerchants}
use Rattle.vault_rights.specs.Faults as rights
use Rattle.vault_rights.specs.Named.{Row}
use Rattle.vault_rights.specs.declared.fault.RightsFault.{RightsFault}
use Rattle.vault_store.specs.Listed.{merchant_rows}
use Rattle.vault_changes.specs.Changes.{changes_at, rights_of}
use Rattle.vault_changes.specs.Settings.{settings_at}
use Rattle.vault_live.specs.Known.{are_too_many, lacks_merchant}

-- which rows a text names
abbrev pub Naming : Type 0 → Type 1
Naming X = List ℕ → List X → Type 0

-- which commands rows ask for at a moment, by the vault that is held
abbrev pub Wanting : Type 0 → Type 0
Wanting X = ℕ → List X → Content → List Command

-- by which numbers the vault that is held refuses rows as a whole
abbrev pub Refusing : Type 0 → Type 1
Refusing X = List X → Content → ℕ → Type 0

-- the commands are those that the rows ask for, and the vault that is held doesn't refuse the rows
abbrev pub AreChanges : {X : Type 0} → Wanting X → Refusing X → ℕ → List X → Content → List Command → Type 0
AreChanges wants refuses now rows V cs = (cs ≡ wants now rows V) × ((number : ℕ) → refuses rows V number → ⊥)

-- a vault that refuses the command is left as it was
abbrev pub KeepsRefused : Command → Type 0
KeepsRefused c = (V : Content) (n : ℕ) → reply V c ≡ answer.Refused n → after V c ≡ V

-- the commands are proper, and a vault that refuses one of them is left as it was
pub record AreSteps (cs : List Command) : Type 0 where
  pub proper : AllProper cs
  pub keeps : All KeepsRefused cs

-- the text has a fault as a list of rights, which has this number and isn't want of memory
abbrev pub HasRightsFault : List ℕ → ℕ → Type 0
HasRightsFault text number = (fault : RightsFault) × rights.IsFault text fault
    × (number ≡ number_of (rights.refusal_of fault)) × (number ≢ number_of RightsMemory)

-- the same as a list of merchants
abbrev pub HasMerchantsFault : List ℕ → ℕ → Type 0
HasMerchantsFault text number = (fault : MerchantsFault) × merchants.IsFault text fault
    × (number ≡ number_of (merchants.refusal_of fault)) × (number ≢ number_of RightsMemory)

-- the commands that make the rights exactly those of the rows
abbrev pub rights_changes : Wanting Row
rights_changes now rows V = changes_at true now rows (rights_of V)

-- the commands that set the merchants of the rows that aren't held so
abbrev pub merchants_changes : Wanting Wanted
merchants_changes now rows V = settings_at now rows (merchant_rows V)

-- with the merchants of the rows the vault would have too many, which has this number
abbrev pub ExceedsRoom : List Wanted → Content → ℕ → Type 0
ExceedsRoom rows V number =
    (are_too_many (merchant_rows V) rows ≡ true) × (number ≡ number_of TooManyMerchants)

-- the vault lacks the merchant of a row, which has this number
abbrev pub LacksMerchant : List Row → Content → ℕ → Type 0
LacksMerchant rows V number =
    (lacks_merchant (merchant_rows V) rows ≡ true) × (number ≡ number_of NoMerchant)
