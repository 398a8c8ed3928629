-- What is known of a merchant's count of tokens made, and of all of it, before its lives change.
use Rattle.std.specs.Prelude.{ℕ, Option, Some, None}
use Rattle.sqlite.specs.State.{State}
use Rattle.vault_core.specs.Changes.{Fit}
use Rattle.vault_core.specs.Keys.{Bytes}
use Rattle.vault_core.specs.Numbers.{count_number}
use Rattle.vault_core.specs.Sound.{Sound}
use Rattle.vault_core.specs.Vault.{Vault}
use Rattle.vault_core.specs.declared.changes.Changes.{Changes}
use Rattle.vault_core.specs.declared.changes.Count.TheVariants.{Made}
use Rattle.vault_core.specs.declared.row.Lives.{Lives}
use Rattle.vault_tables.specs.Raising.{IsTotal}
use Rattle.vault_tables.specs.declared.counts.KnownCount.{KnownCount}
use Rattle.vault_schema.specs.Holds.{Holds}
use Rattle.vault_schema.specs.Stands.{lookups_of}
use Rattle.vault_schema.specs.Versions.{Lookups}
use Rattle.vault_sql.specs.KnownLives.{AreBefore}
use Rattle.vault_sql.specs.declared.remembered.Known.{Known}

-- the total that is known of a merchant's tokens made, if any, is the one that there is
abbrev pub IsMade : Option KnownCount → Bytes → (Bytes × ℕ → Option ℕ) → Type 0
IsMade None m held = Unit {0}
IsMade (Some known) m held = IsTotal held (m, count_number Made) known.total

-- so is that of the merchant whose lives change
abbrev pub IsMadeBefore : Option (Bytes × Lives) → Option KnownCount → (Bytes × ℕ → Option ℕ) → Type 0
IsMadeBefore None known held = Unit {0}
IsMadeBefore (Some x) known held = IsMade known x.0 held

-- so are its lives and its count
pub record IsBefore (change : Option (Bytes × Lives)) (known : Known) (h : Lookups) : Type 0 where
  pub lives : AreBefore change known.lives h.merchants
  pub made : IsMadeBefore change known.made h.counts

-- a sound vault is held, of whose merchant this is known, and the changes fit it
pub record IsFitFor (ch : Changes) (known : Known) (st : State) (V : Vault) : Type 0 where
  pub held : Holds st V
  pub known_so : IsBefore ch.lives known (lookups_of V)
  pub sound : Sound V
  pub fits : Fit V ch
