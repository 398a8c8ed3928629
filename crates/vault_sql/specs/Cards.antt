-- A card of a vault's number.
use Rattle.std.specs.Prelude.{◌≡◌, ℕ, ℤ, Option, option_map}
use Rattle.std.specs.FinMap as map
use Rattle.vault_tables.specs.CardUses.{IsCardOf}
use Rattle.vault_core.specs.Keys.{Bytes}
use Rattle.vault_core.specs.Repeats.{current}
use Rattle.vault_core.specs.Sound.{Sound}
use Rattle.vault_core.specs.Vault.{Vault}
use Rattle.vault_core.specs.Window.{moment_at}
use Rattle.vault_schema.specs.Versions.{Tables}
use Rattle.vault_schema.specs.Joined.{AreJoined, nothing_owed}
use Rattle.vault_schema.specs.declared.rows.Card.{Card}

-- the cards, and the entries that point at them, are those of a vault, and the card with this id is that of a
-- merchant's number
pub record HasCard (t : Tables) (V : Vault) (id : ℤ) (m pan : Bytes) : Type 0 where
  pub joined : AreJoined nothing_owed t.cards t.pointing (map.get V.entries)
  pub card : (c : Card) × IsCardOf t.cards id c m pan

-- a number's multi-use token that is live at a moment
abbrev pub current_token : Vault → Bytes → Bytes → ℕ → Option Bytes
current_token V m pan at = option_map (λ held. held.0) (current V m pan at)

-- this is so of the live multi-use token of the number of a merchant's card with this id, in each sound vault
-- that has it, at a moment that isn't before the merchant's
abbrev pub IsCurrentWhere : Tables → ℤ → Bytes → ℕ → (Option Bytes → Type 0) → Type 0
IsCurrentWhere t id m at Is =
    (V : Vault) (pan : Bytes) → HasCard t V id m pan → Sound V → moment_at V m at ≡ at
    → Is (current_token V m pan at)
