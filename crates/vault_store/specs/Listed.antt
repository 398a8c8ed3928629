-- All merchants and all rights of a vault, listed.
use Rattle.std.specs.Prelude.{◌≡◌, List, is_some, map}
use Rattle.std.specs.BTreeMap as rows
use Rattle.std.specs.FinMap as finite
use Rattle.std.specs.FinMap.{entries}
use Rattle.vault_core.specs.Keys.{Bytes, bytes_cmp, right_cmp}
use Rattle.vault_core.specs.Vault.{Vault, merchant_at}
use Rattle.vault_core.specs.Window.{row_of}
use Rattle.vault_core.specs.declared.right.Right.{Right}
use Rattle.vault_core.specs.declared.row.GrantRow.{GrantRow}
use Rattle.vault_core.specs.declared.row.MerchantRow.{MerchantRow}

-- the names of all merchants, in order
abbrev pub merchant_names : Vault → List Bytes
merchant_names V = map (λ e. e.0) (entries V.merchants)

-- each merchant with its row, in order of the names
abbrev pub merchant_rows : Vault → List (Bytes × MerchantRow)
merchant_rows V = map (λ e. (e.0, row_of V e.0 e.1)) (entries V.merchants)

-- an ordered map has something at the names of all merchants, and at no others
abbrev pub HasNames : {X : Type 0} → rows.BTreeMap Bytes X → Vault → Type 0
HasNames shown V = (m : Bytes) → is_some (rows.get bytes_cmp shown m) ≡ is_some (merchant_at V m)

-- an ordered map gives at each key the right that is held there
abbrev pub HasRights : rows.BTreeMap (Bytes × (Bytes × Right)) GrantRow
    → finite.FinMap right_cmp GrantRow → Type 0
HasRights shown F = (key : Bytes × (Bytes × Right)) → rows.get right_cmp shown key ≡ finite.get F key
