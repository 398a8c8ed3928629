-- What ordered maps over the rows have at each key.
use Rattle.std.specs.Prelude.{◌≡◌, ℕ, pos, ◌&&◌, Bool, List, Option, bytes_eq, option_map}
use Rattle.std.specs.Prelude.{string_bytes}
use Rattle.std.specs.Borrow.{Bor}
use Rattle.std.specs.BTreeMap.{BTreeMap, get_by}
use Rattle.std.specs.BTreeSet.{BTreeSet, contains_by}
use Rattle.std.specs.List.{find}
use Rattle.std.specs.Option.{option_copied}
use Rattle.std.specs.Ordering.{int_eq, nat_cmp, ordering_then}
use Rattle.vault_core.specs.Keys.{Bytes, bytes_cmp}
use Rattle.vault_rules.specs.Lookups.{merchant_of}
use Rattle.vault_rules.specs.Packed.{key_number}
use Rattle.vault_rules.specs.declared.rows.RawMerchant.{RawMerchant}
use Rattle.vault_rules.specs.declared.rows.RawCount.{RawCount}

-- a text as it lies in memory
abbrev pub Text : Type 0
Text = Bor Bytes

-- what a map has at a text
abbrev pub at_text : {X : Type 0} → BTreeMap Text X → Bytes → Option X
at_text map text = get_by (λ key. bytes_cmp text key.now) map

-- what a map has at a number and a text
abbrev pub at_pair : {X : Type 0} → BTreeMap (ℕ × Text) X → ℕ → Bytes → Option X
at_pair map number text =
    get_by (λ key. ordering_then (nat_cmp number key.0) (bytes_cmp text key.1.now)) map

-- a merchant's first count of tokens made
abbrev pub made_of : List RawCount → Bytes → Option RawCount
made_of counts name = find (λ c. bytes_eq (string_bytes c.merchant) name && int_eq c.kind (pos 1)) counts

-- maps that have what the rows have: the merchant of a name, and its count of tokens made
pub record IsIndexOf (by_name : BTreeMap Text (Bor RawMerchant)) (made : BTreeMap Text (Bor RawCount))
    (merchants : List RawMerchant) (counts : List RawCount) : Type 0 where
  pub merchants_are : (name : Bytes) → option_copied (at_text by_name name) ≡ merchant_of merchants name
  pub made_are : (name : Bytes) → option_copied (at_text made name) ≡ made_of counts name

-- whether a set has a number and a text
abbrev pub has_pair : BTreeSet (ℕ × Text) → ℕ → Bytes → Bool
has_pair keys number text =
    contains_by (λ key. ordering_then (nat_cmp number key.0) (bytes_cmp text key.1.now)) keys

-- a number and a text, as they lie in memory
abbrev pub seen_key : ℕ × Text → ℕ × Bytes
seen_key key = (key.0, key.1.now)

-- what lies in memory is the number and the name of this merchant and number, where there are any
abbrev pub IsSeenKey : Option (ℕ × Text) → Option (Bytes × Bytes) → Type 0
IsSeenKey seen key = option_map seen_key seen ≡ option_map key_number key
