-- Requests that come again, and tokens that are given again.
use Rattle.std.specs.Prelude.{ℕ, ◌&&◌, Bool, true, false, Option, Some, None, find, option_map}
use Rattle.std.specs.Prelude.{option_and_then}
use Rattle.std.specs.Option.{option_map_or}
use Rattle.std.specs.FinMap as map
use Rattle.vault_pan.specs.CardText.{same, fits}
use Rattle.vault_core.specs.Keys.{Bytes}
use Rattle.vault_core.specs.Vault.{Vault, entry_at, record_at, entries_of, is_live}
use Rattle.vault_core.specs.declared.row.Entry.{Entry}
use Rattle.vault_core.specs.declared.row.Record.{Record}
use Rattle.vault_core.specs.declared.usage.Use.{Use}
use Rattle.vault_core.specs.declared.usage.Use.TheVariants.{Single, Multi}

-- whether two uses are the same
abbrev pub same_use : Use → Use → Bool
same_use Single Single = true
same_use Multi Multi = true
same_use Single Multi = false
same_use Multi Single = false

-- a number is the entry's, or it has the length and the last four digits of a token whose number is purged
abbrev pub is_number_of : Bytes → Bytes → Option Bytes → Bool
is_number_of pan token (Some number) = same number pan
is_number_of pan token None = fits token pan

-- a request comes again with its merchant, use and number
abbrev pub is_repeat : Bytes → Use → Bytes → Record → Entry → Bool
is_repeat m usage pan r entry =
    same r.merchant m && same_use r.usage usage && is_number_of pan r.token entry.number

-- the record of a request, with its entry
abbrev pub record_with_entry : Vault → Bytes → ℕ → Option (Record × Entry)
record_with_entry V caller request =
    option_and_then
    (λ r. option_map (λ entry. (r, entry)) (entry_at V r.merchant r.token))
    (record_at V caller request)

-- a live multi-use entry of this number
abbrev pub is_reusable : Bytes → ℕ → Entry → Bool
is_reusable pan at entry =
    same_use entry.usage Multi && option_map_or (λ number. same number pan) entry.number false
    && is_live entry at

-- the live multi-use token of a number at a merchant, with its entry
unfoldable pub current : Vault → Bytes → Bytes → ℕ → Option (Bytes × Entry)
current V m pan at =
    option_map (λ e. (e.0.1, e.1)) (find (λ e. is_reusable pan at e.1) (map.entries (entries_of V m)))

-- only a multi-use token is given again
abbrev pub reusable : Use → Option (Bytes × Entry) → Option (Bytes × Entry)
reusable Single held = None
reusable Multi held = held
