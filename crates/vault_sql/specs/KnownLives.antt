-- What is known of a merchant's lives before they change.
use Rattle.std.specs.Prelude.{◌≡◌, Option, Some, None}
use Rattle.vault_core.specs.Keys.{Bytes}
use Rattle.vault_core.specs.declared.row.Lives.{Lives}

-- the lives that are known, if any, are those that there are
abbrev pub AreThere : Option Lives → Option Lives → Type 0
AreThere None there = Unit {0}
AreThere (Some known) there = there ≡ Some known

-- so are those of the merchant whose lives change
abbrev pub AreBefore : Option (Bytes × Lives) → Option Lives → (Bytes → Option Lives) → Type 0
AreBefore None known held = Unit {0}
AreBefore (Some x) known held = AreThere known (held x.0)
