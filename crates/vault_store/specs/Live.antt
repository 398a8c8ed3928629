-- Tokens in ordered maps that can be given again.
use Rattle.std.specs.Prelude.{◌≡◌, ℕ, true, Some}
use Rattle.std.specs.BTreeMap as rows
use Rattle.vault_core.specs.Keys.{Bytes, entry_cmp}
use Rattle.vault_core.specs.Repeats.{is_reusable}
use Rattle.vault_core.specs.declared.row.Entry.{Entry}

-- the entry of a merchant's token is a live multi-use one of the number
abbrev pub IsLiveToken : rows.BTreeMap (Bytes × Bytes) Entry → Bytes → Bytes → ℕ → Bytes → Type 0
IsLiveToken entries m pan at token =
    (entry : Entry) × (rows.get entry_cmp entries (m, token) ≡ Some entry) × (is_reusable pan at entry ≡ true)
