-- What the numbers of rows stand for.
use Rattle.std.specs.Prelude.{ℕ, ℤ, pos, negsuc, if◌then◌else◌}
use Rattle.std.specs.Ordering.{int_eq}
use Rattle.vault_core.specs.declared.right.Right.{Right}
use Rattle.vault_core.specs.declared.right.Right.TheVariants.{Tokenize, Detokenize, View, Revoke, Purge}
use Rattle.vault_core.specs.declared.right.Right.TheVariants.{Audit}
use Rattle.vault_core.specs.declared.usage.Use.{Use}
use Rattle.vault_core.specs.declared.usage.Use.TheVariants.{Single, Multi}
use Rattle.vault_pan.specs.declared.lead.Lead.{Lead}
use Rattle.vault_pan.specs.declared.lead.Lead.TheVariants.{Six, Eight}

-- a whole number that isn't negative
abbrev pub natural : ℤ → ℕ
natural (pos n) = n
natural (negsuc n) = 0

-- the use of a number
abbrev pub use_of : ℤ → Use
use_of n = if int_eq n (pos 2) then Multi else Single

-- the right of a number
abbrev pub right_of : ℤ → Right
right_of n =
    if int_eq n (pos 1) then Tokenize
    else if int_eq n (pos 2) then Detokenize
    else if int_eq n (pos 3) then View
    else if int_eq n (pos 4) then Revoke
    else if int_eq n (pos 5) then Purge
    else Audit

-- the lead of so many digits
abbrev pub lead_of : ℤ → Lead
lead_of n = if int_eq n (pos 8) then Eight else Six
