-- The items of a merchant's array.
use Rattle.std.specs.Prelude.{ℕ, ℤ, pos, List, Contains, Option, Some, None, option_map, codes}
use Rattle.toml.specs.Data.{Data, Members, string, integer, table, no_members, member}
use Rattle.vault_core.specs.Keys.{Bytes}
use Rattle.vault_core.specs.Words.{right_word}
use Rattle.vault_core.specs.declared.right.Right.{Right}

-- the members of a table with exactly a text at `right` and a whole number at `until`, in the order of keys
abbrev pub pair_of : Bytes → ℤ → Members
pair_of word end = member (codes "right") (string word) (member (codes "until") (integer end) no_members)

-- an item that says a word, and where it says an end too, that: a text, or such a table
abbrev pub item_of : Bytes → Option ℤ → Data
item_of word None = string word
item_of word (Some end) = table (pair_of word end)

-- the item that gives a right, up to a moment or for good
abbrev pub grant_of : Right → Option ℕ → Data
grant_of right until = item_of (right_word right) (option_map pos until)

-- one of the grants is of the right and has this end
abbrev pub IsGranted : List (Right × Option ℕ) → Right → Option ℕ → Type 0
IsGranted grants right until = Contains grants (right, until)
