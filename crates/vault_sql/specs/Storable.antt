-- Changes whose numbers fit the columns.
use Rattle.std.specs.Prelude.{ℕ, ◌<◌, ◌^◌, Option, Some, None}
use Rattle.vault_core.specs.Keys.{Bytes}
use Rattle.vault_core.specs.declared.changes.Changes.{Changes}
use Rattle.vault_core.specs.declared.row.Entry.{Entry}
use Rattle.vault_core.specs.declared.row.Lives.{Lives}

-- a number fits a column
abbrev pub IsStorable : ℕ → Type 0
IsStorable n = n < 2 ^ 63

-- so do those of lives that change
abbrev pub IsStorableLives : Option (Bytes × Lives) → Type 0
IsStorableLives None = Unit {0}
IsStorableLives (Some x) = IsStorable x.1.single_life × IsStorable x.1.multi_life

-- so do those of an entry that changes
abbrev pub IsStorableEntry : Option (Bytes × Bytes × Entry) → Type 0
IsStorableEntry None = Unit {0}
IsStorableEntry (Some x) = IsStorable x.2.expires

-- moments, uses and rights always fit
abbrev pub AreStorable : Changes → Type 0
AreStorable ch = IsStorableLives ch.lives × IsStorableEntry ch.entry
