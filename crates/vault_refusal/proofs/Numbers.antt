-- Each refusal is the one that has its number.
use Rattle.std.proofs.Common.{◌≡◌, Some, refl}
use Rattle.vault_refusal.specs.Refusal.{number_of, numbered}
use Rattle.vault_refusal.specs.declared.refusal.Refusal.{Refusal}
use Rattle.vault_refusal.specs.declared.refusal.Refusal.TheVariants.{BadNumber}

-- none is missing among them, and no two have one number
pub numbered_itself : (r : Refusal) → numbered (number_of r) ≡ Some r
numbered_itself BadNumber = refl
numbered_itself other = refl
