-- The keys of the vault's maps, in order.
use Rattle.std.specs.Prelude.{ℕ, List}
use Rattle.std.specs.Ordering.{nat_cmp, ordering_then}
use Rattle.std.specs.Cmp.Lexicographic.{slice_cmp}
use Rattle.std.specs.declared.cmp.Ordering.{Ordering}
use Rattle.vault_core.specs.Numbers.{right_number}
use Rattle.vault_core.specs.declared.right.Right.{Right}

-- bytes
abbrev pub Bytes : Type 0
Bytes = List ℕ

-- names, numbers and tokens by their bytes
abbrev pub bytes_cmp : Bytes → Bytes → Ordering
bytes_cmp = slice_cmp nat_cmp

-- entries by merchant and token
abbrev pub entry_cmp : Bytes × Bytes → Bytes × Bytes → Ordering
entry_cmp a b = ordering_then (bytes_cmp a.0 b.0) (bytes_cmp a.1 b.1)

-- records by caller and request number
abbrev pub record_cmp : Bytes × ℕ → Bytes × ℕ → Ordering
record_cmp a b = ordering_then (bytes_cmp a.0 b.0) (nat_cmp a.1 b.1)

-- rights by caller, merchant and number
abbrev pub right_cmp : Bytes × (Bytes × Right) → Bytes × (Bytes × Right) → Ordering
right_cmp a b =
    ordering_then (bytes_cmp a.0 b.0)
    (ordering_then (bytes_cmp a.1.0 b.1.0) (nat_cmp (right_number a.1.1) (right_number b.1.1)))
