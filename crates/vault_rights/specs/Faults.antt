-- The fault of a document: that of its first faulty place, in the order in which faults are looked for.
use Rattle.std.specs.Prelude.{◌≡◌, ◌<◌, ◌⊎◌, ℕ, ℤ, pos, List, Option, Some, None, IsUtf8}
use Rattle.std.specs.declared.cmp.Ordering.TheVariants.{Less}
use Rattle.toml.specs.Data.{Data, Items, Members, array, table, get_item, get_member, as_array, as_table}
use Rattle.toml.specs.Parse.{parse_document}
use Rattle.vault_refusal.specs.declared.refusal.Refusal.{Refusal}
use Rattle.vault_refusal.specs.declared.refusal.Refusal.TheVariants as refusal
use Rattle.vault_core.specs.Keys.{Bytes, bytes_cmp}
use Rattle.vault_core.specs.Name.{IsName}
use Rattle.vault_core.specs.Scalar.{IsMoment}
use Rattle.vault_core.specs.Words.{right_word}
use Rattle.vault_core.specs.declared.right.Right.{Right}
use Rattle.vault_rights.specs.Items.{item_of}
use Rattle.vault_rights.specs.Proper.{IsGrant, IsProperMerchant, IsProperCaller}
use Rattle.vault_rights.specs.declared.fault.RightsFault.{RightsFault}
use Rattle.vault_rights.specs.declared.fault.RightsFault.TheVariants.{NotToml, UnknownRight, BadName}
use Rattle.vault_rights.specs.declared.fault.RightsFault.TheVariants.{WrongType, Memory, BadEnd}

-- the refusal that a fault is
abbrev pub refusal_of : RightsFault → Refusal
refusal_of NotToml = refusal.NotToml
refusal_of UnknownRight = refusal.UnknownRight
refusal_of BadName = refusal.BadKey
refusal_of WrongType = refusal.WrongType
refusal_of Memory = refusal.RightsMemory
refusal_of BadEnd = refusal.BadEnd

-- an item that is neither a text nor a table of a word and an end
abbrev pub IsOtherItem : Data → Type 0
IsOtherItem item = (word : Bytes) (end : Option ℤ) → ¬ (item ≡ item_of word end)

-- an item whose word is no right's
abbrev pub HasOtherWord : Data → Type 0
HasOtherWord item =
    (word : Bytes) × (end : Option ℤ) × (item ≡ item_of word end)
    × ((right : Right) → ¬ (word ≡ right_word right))

-- an item of a right whose end is no moment
abbrev pub HasOtherEnd : Data → Type 0
HasOtherEnd item =
    (right : Right) × (end : ℤ) × (item ≡ item_of (right_word right) (Some end))
    × ((moment : ℕ) → IsMoment moment → ¬ (end ≡ pos moment))

-- the fault of an item: of its shape, else of its word, else of its end
abbrev pub IsItemFault : Data → RightsFault → Type 0
IsItemFault item fault =
    (IsOtherItem item × (fault ≡ WrongType))
    ⊎ ((HasOtherWord item × (fault ≡ UnknownRight)) ⊎ (HasOtherEnd item × (fault ≡ BadEnd)))

-- the first item that gives no right has the fault
abbrev pub IsFirstItemFault : Items → RightsFault → Type 0
IsFirstItemFault items fault =
    (i : ℕ) × (item : Data) × (get_item i items ≡ Some item) × IsItemFault item fault
    × ((j : ℕ) (earlier : Data) → j < i → get_item j items ≡ Some earlier → IsGrant earlier)

-- a merchant's key is no name; else its value is no array; else the array's first faulty item has the fault
abbrev pub IsMerchantFault : Bytes → Data → RightsFault → Type 0
IsMerchantFault merchant value fault =
    (¬ IsName merchant × (fault ≡ BadName))
    ⊎ ((IsName merchant × (as_array value ≡ None) × (fault ≡ WrongType))
    ⊎ (IsName merchant × ((items : Items) × (value ≡ array items) × IsFirstItemFault items fault)))

-- a key has the fault, and each key before it in byte order is proper
abbrev pub IsFirstFault : {F : Type 0} → (Bytes → Data → Type 0) → (Bytes → Data → F → Type 0) → Members
    → F → Type 0
IsFirstFault IsGood IsBad members fault =
    (key : Bytes) × (value : Data) × (get_member key members ≡ Some value) × IsBad key value fault
    × ((before : Bytes) (earlier : Data) → bytes_cmp before key ≡ Less
    → get_member before members ≡ Some earlier → IsGood before earlier)

-- a caller's key is no name; else its value is no table; else the table's first faulty merchant has the fault
abbrev pub IsCallerFault : Bytes → Data → RightsFault → Type 0
IsCallerFault caller value fault =
    (¬ IsName caller × (fault ≡ BadName))
    ⊎ ((IsName caller × (as_table value ≡ None) × (fault ≡ WrongType))
    ⊎ (IsName caller × ((members : Members) × (value ≡ table members)
    × IsFirstFault IsProperMerchant IsMerchantFault members fault)))

-- the fault of the document's first faulty caller
abbrev pub IsDocumentFault : Members → RightsFault → Type 0
IsDocumentFault document fault = IsFirstFault IsProperCaller IsCallerFault document fault

-- the text is the document, in UTF-8
abbrev pub IsDocument : List ℕ → Members → Type 0
IsDocument text document = IsUtf8 text × (parse_document text ≡ Some document)

-- the text is no document; else the fault is the document's. That memory was refused says nothing of the text
abbrev pub IsFault : List ℕ → RightsFault → Type 0
IsFault text fault =
    (fault ≡ Memory)
    ⊎ ((((document : Members) → ¬ IsDocument text document) × (fault ≡ NotToml))
    ⊎ ((document : Members) × IsDocument text document × IsDocumentFault document fault))
