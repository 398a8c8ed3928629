-- The merchants that a document lists.
use Rattle.std.specs.Prelude.{◌≡◌, ◌⊎◌, ℕ, ℤ, pos, List, [], ◌∷◌, Option, Some, None, IfSome, codes}
use Rattle.std.specs.Prelude.{option_map}
use Rattle.toml.specs.Data.{Data, Members, get_member, integer, string, table, no_members, member}
use Rattle.vault_pan.specs.Mask.{lead_digits}
use Rattle.vault_pan.specs.declared.lead.Lead.{Lead}
use Rattle.vault_pan.specs.declared.lead.Lead.TheVariants.{Six}
use Rattle.vault_core.specs.Keys.{Bytes}
use Rattle.vault_core.specs.Name.{IsName}
use Rattle.vault_core.specs.Scalar.{IsLife}
use Rattle.vault_rights.specs.Faults.{IsDocument}
use Rattle.vault_rights.specs.Proper.{EachMember}

-- a merchant of a list: its name, the life of its single-use tokens, that of its multi-use ones, its lead,
-- and the caller by whom its dead tokens are purged, where one is
abbrev pub Wanted : Type 0
Wanted = Bytes × ℕ × ℕ × Lead × Option Bytes

-- one of the four keys
abbrev pub IsKnown : Bytes → Type 0
IsKnown key = (key ≡ codes "single") ⊎ (key ≡ codes "multi") ⊎ (key ≡ codes "lead") ⊎ (key ≡ codes "sweep")

-- the table has no other key
abbrev pub HasOnly : Members → Type 0
HasOnly members = EachMember (λ key value. IsKnown key) members

-- the table is of exactly these whole numbers, two lives, and a lead where it says one, and of this caller's
-- name, where it says who sweeps
pub record IsTableOf (members : Members) (single multi : ℤ) (lead : Option ℤ) (sweeper : Option Bytes)
    : Type 0 where
  pub single_is : get_member (codes "single") members ≡ Some (integer single)
  pub multi_is : get_member (codes "multi") members ≡ Some (integer multi)
  pub lead_is : get_member (codes "lead") members ≡ option_map integer lead
  pub sweeper_is : get_member (codes "sweep") members ≡ option_map string sweeper
  pub named : IfSome sweeper IsName
  pub only : HasOnly members

-- the number is this life
abbrev pub IsLifeOf : ℤ → ℕ → Type 0
IsLifeOf number life = (number ≡ pos life) × IsLife life

-- the number is this lead's; where there is none, the lead is six
abbrev pub IsLeadOf : Option ℤ → Lead → Type 0
IsLeadOf None lead = lead ≡ Six
IsLeadOf (Some number) lead = number ≡ pos (lead_digits lead)

-- the numbers are these lives and this lead
pub record AreLivesOf (single multi : ℤ) (lead : Option ℤ) (one more : ℕ) (shown : Lead) : Type 0 where
  pub single_is : IsLifeOf single one
  pub multi_is : IsLifeOf multi more
  pub lead_is : IsLeadOf lead shown

-- the value is a table of exactly these whole numbers and this name
abbrev pub IsValueOf : Data → ℤ → ℤ → Option ℤ → Option Bytes → Type 0
IsValueOf value single multi lead sweeper = (members : Members) × (value ≡ table members)
    × IsTableOf members single multi lead sweeper

-- the row of a key that is a name, and of such a table of lives, a lead and who sweeps
abbrev pub IsRowOf : Bytes → Data → Wanted → Type 0
IsRowOf key value row = (row.0 ≡ key) × IsName key
    × ((single multi : ℤ) × (lead : Option ℤ) × IsValueOf value single multi lead row.4
    × AreLivesOf single multi lead row.1 row.2 row.3)

-- the rows are those of the members, one by one
abbrev pub AreRowsOf : Members → List Wanted → Type 0
AreRowsOf no_members [] = Unit {0}
AreRowsOf no_members (row ∷ rows) = ⊥
AreRowsOf (member key value rest) [] = ⊥
AreRowsOf (member key value rest) (row ∷ rows) = IsRowOf key value row × AreRowsOf rest rows

-- the rows are those of the document of a text
abbrev pub AreListed : List ℕ → List Wanted → Type 0
AreListed text rows = (document : Members) × IsDocument text document × AreRowsOf document rows
