-- The numbers that stand for uses, rights and kinds of counts.
use Rattle.std.specs.Prelude.{ℕ}
use Rattle.vault_core.specs.declared.changes.Count.{Count}
use Rattle.vault_core.specs.declared.changes.Count.TheVariants.{Made, Given, Denied}
use Rattle.vault_core.specs.declared.right.Right.{Right}
use Rattle.vault_core.specs.declared.right.Right.TheVariants.{Tokenize, Detokenize, View, Revoke, Purge}
use Rattle.vault_core.specs.declared.right.Right.TheVariants.{Audit}
use Rattle.vault_core.specs.declared.usage.Use.{Use}
use Rattle.vault_core.specs.declared.usage.Use.TheVariants.{Single, Multi}

-- the number of a use
abbrev pub use_number : Use → ℕ
use_number Single = 1
use_number Multi = 2

-- the number of a right
abbrev pub right_number : Right → ℕ
right_number Tokenize = 1
right_number Detokenize = 2
right_number View = 3
right_number Revoke = 4
right_number Purge = 5
right_number Audit = 6

-- the number of a kind of count
abbrev pub count_number : Count → ℕ
count_number Made = 1
count_number Given = 2
count_number Denied = 3
