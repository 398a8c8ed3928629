-- The rights that a document names, and the list of them.
use Rattle.std.specs.Prelude.{◌≡◌, ◌≤◌, ◌↔◌, ◌++◌, ℕ, List, Contains, Option, Some, IfSome}
use Rattle.std.specs.Prelude.{IsSomeAnd}
use Rattle.std.specs.List.Sorted.{IsStrictlySortedBy}
use Rattle.std.specs.declared.cmp.Ordering.{Ordering}
use Rattle.toml.specs.Data.{Data, Items, Members, array, table, get_item, get_member}
use Rattle.vault_core.specs.Keys.{Bytes, right_cmp}
use Rattle.vault_core.specs.declared.right.Right.{Right}
use Rattle.vault_rights.specs.Items.{grant_of}

-- a caller, a merchant, a right and its end, where it has one
abbrev pub Row : Type 0
Row = Bytes × Bytes × Right × Option ℕ

-- rows by caller, merchant and the right's number; the end doesn't matter
abbrev pub row_cmp : Row → Row → Ordering
row_cmp a b = right_cmp (a.0, (a.1, a.2)) (b.0, (b.1, b.2))

-- one end is no later than another; to have none is the latest
abbrev pub IsNoLater : Option ℕ → Option ℕ → Type 0
IsNoLater until other = IfSome other (λ last. IsSomeAnd until (λ moment. moment ≤ last))

-- P holds of the end, and of no later one
abbrev pub IsLatest : (Option ℕ → Type 0) → Option ℕ → Type 0
IsLatest P until = P until × ((other : Option ℕ) → P other → IsNoLater other until)

-- an item of the array gives the right up to this end
abbrev pub HasGrant : Items → Right → Option ℕ → Type 0
HasGrant items right until = (i : ℕ) × (get_item i items ≡ Some (grant_of right until))

-- the value is an array whose items give the right, and of their ends this is the latest
abbrev pub HasRight : Data → Right → Option ℕ → Type 0
HasRight value right until =
    (items : Items) × (value ≡ array items) × IsLatest (HasGrant items right) until

-- the table has at the merchant such an array
abbrev pub HasMerchant : Members → Bytes → Right → Option ℕ → Type 0
HasMerchant members merchant right until =
    (inner : Data) × (get_member merchant members ≡ Some inner) × HasRight inner right until

-- the value is such a table
abbrev pub GivesRight : Data → Bytes → Right → Option ℕ → Type 0
GivesRight value merchant right until =
    (members : Members) × (value ≡ table members) × HasMerchant members merchant right until

-- the document has at the caller such a table
abbrev pub Names : Members → Row → Type 0
Names document row =
    (value : Data) × (get_member row.0 document ≡ Some value) × GivesRight value row.1 row.2 row.3

-- the rows are those that P holds of, in order and without doubles
abbrev pub IsListOf : (Row → Type 0) → List Row → Type 0
IsListOf P rows = IsStrictlySortedBy row_cmp rows × ((row : Row) → Contains rows row ↔ P row)

-- after is before with the list of those that P holds of at its end
abbrev pub IsExtendedBy : (Row → Type 0) → List Row → List Row → Type 0
IsExtendedBy P before after = (added : List Row) × (after ≡ before ++ added) × IsListOf P added
