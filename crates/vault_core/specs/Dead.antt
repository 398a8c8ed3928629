-- The tokens whose numbers can be purged.
use Rattle.std.specs.Prelude.{ℕ, ◌&&◌, Bool, not, is_some, List, map}
use Rattle.std.specs.FinMap.{entries}
use Rattle.std.specs.List.{filter}
use Rattle.vault_core.specs.Keys.{Bytes}
use Rattle.vault_core.specs.Vault.{Vault, entries_of, is_live}
use Rattle.vault_core.specs.Window.{moment_at}
use Rattle.vault_core.specs.declared.row.Entry.{Entry}

-- an entry that has its number and isn't live
abbrev pub is_dead : Entry → ℕ → Bool
is_dead entry at = is_some entry.number && not (is_live entry at)

-- the tokens of a merchant that are dead at the later of its moment and this one, in order of their texts
unfoldable pub dead_tokens : Vault → Bytes → ℕ → List Bytes
dead_tokens V m now =
    map (λ e. e.0.1) (filter (λ e. is_dead e.1 (moment_at V m now)) (entries (entries_of V m)))
