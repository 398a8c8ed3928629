-- Sets of rights.
use Rattle.std.specs.Prelude.{◌≡◌, ℕ, List, Option}
use Rattle.std.specs.BTreeSet.{BTreeSet, contains}
use Rattle.std.specs.Option.{option_cmp}
use Rattle.std.specs.Ordering.{nat_cmp, ordering_then}
use Rattle.std.specs.declared.cmp.Ordering.{Ordering}
use Rattle.vault_core.specs.Keys.{right_cmp}
use Rattle.vault_rights.specs.Named.{Row}
use Rattle.vault_changes.specs.Changes.{Held, Key, is_held, is_listed, right_of}

-- a right with its end, where it has one
abbrev pub Ended : Type 0
Ended = Key × Option ℕ

-- by right, and then by end; one without an end is before the others
abbrev pub ended_cmp : Ended → Ended → Ordering
ended_cmp a b = ordering_then (right_cmp a.0 b.0) (option_cmp nat_cmp a.1 b.1)

-- the set has exactly the rights that rows list
abbrev pub HasListed : BTreeSet Key → List Row → Type 0
HasListed keys rows = (right : Key) → contains right_cmp keys right ≡ is_listed rows right

-- the set has exactly the rights that are held, with their ends
abbrev pub HasHeld : BTreeSet Ended → List Held → Type 0
HasHeld keys held = (row : Row) → contains ended_cmp keys (right_of row, row.3) ≡ is_held held row
