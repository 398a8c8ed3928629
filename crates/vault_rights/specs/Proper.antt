-- Documents with no fault.
use Rattle.std.specs.Prelude.{◌≡◌, ℕ, Option, Some, IfSome}
use Rattle.toml.specs.Data.{Data, Items, Members, array, table, get_item, get_member}
use Rattle.vault_core.specs.Keys.{Bytes}
use Rattle.vault_core.specs.Name.{IsName}
use Rattle.vault_core.specs.Scalar.{IsMoment}
use Rattle.vault_core.specs.declared.right.Right.{Right}
use Rattle.vault_rights.specs.Items.{grant_of}

-- the item gives a right, for good or up to a moment
abbrev pub IsGrant : Data → Type 0
IsGrant item = (right : Right) × (until : Option ℕ) × (item ≡ grant_of right until) × IfSome until IsMoment

-- each item gives a right
abbrev pub AreGrants : Items → Type 0
AreGrants items = (i : ℕ) (item : Data) → get_item i items ≡ Some item → IsGrant item

-- the merchant's key is a name, and its value an array of items that give rights
abbrev pub IsProperMerchant : Bytes → Data → Type 0
IsProperMerchant merchant value =
    IsName merchant × ((items : Items) × (value ≡ array items) × AreGrants items)

-- P holds of each key and its value
abbrev pub EachMember : (Bytes → Data → Type 0) → Members → Type 0
EachMember P members = (key : Bytes) (value : Data) → get_member key members ≡ Some value → P key value

-- the caller's key is a name, and its value a table of proper merchants
abbrev pub IsProperCaller : Bytes → Data → Type 0
IsProperCaller caller value =
    IsName caller × ((members : Members) × (value ≡ table members) × EachMember IsProperMerchant members)

-- each caller is proper
abbrev pub IsProper : Members → Type 0
IsProper document = EachMember IsProperCaller document
