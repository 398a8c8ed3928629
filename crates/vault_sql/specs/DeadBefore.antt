-- Tokens that no dead one comes before.
use Rattle.std.specs.Prelude.{◌≡◌, ℕ, List, Some, false, map, take}
use Rattle.std.specs.declared.cmp.Ordering.TheVariants.{Less}
use Rattle.sqlite.specs.Order.{Row}
use Rattle.vault_core.specs.Dead.{dead_tokens, is_dead}
use Rattle.vault_core.specs.Keys.{Bytes, bytes_cmp}
use Rattle.vault_core.specs.Vault.{Vault, entry_at}
use Rattle.vault_core.specs.Window.{moment_at}
use Rattle.vault_core.specs.declared.row.Entry.{Entry}
use Rattle.vault_tables.specs.Shown.{text_column}

-- none of a merchant's tokens that come before this text is dead at the moment
abbrev pub HasNoDeadBefore : Vault → Bytes → ℕ → Bytes → Type 0
HasNoDeadBefore V m at from =
    (token : Bytes) (e : Entry) → bytes_cmp token from ≡ Less → entry_at V m token ≡ Some e
    → is_dead e at ≡ false

-- the rows of the first so many of a merchant's tokens that are dead at the later one of its moment and now
abbrev pub first_dead : Vault → Bytes → ℕ → ℕ → List Row
first_dead V m now many = map text_column (take many (dead_tokens V m now))

-- The rows are the first so many of a merchant's tokens that are dead at a moment, in order: where none
-- before this text is, and the moment is the later one of the merchant's and another.
abbrev pub AreFirstDead : Vault → Bytes → ℕ → Bytes → ℕ → List Row → Type 0
AreFirstDead V m at from many rows =
    HasNoDeadBefore V m at from → (now : ℕ) → moment_at V m now ≡ at
    → rows ≡ first_dead V m now many
