-- Vaults that have no more keys than another.
use Rattle.std.specs.Prelude.{◌≡◌, ℕ, true, is_some}
use Rattle.vault_core.specs.Keys.{Bytes}
use Rattle.vault_core.specs.Vault.{Vault, merchant_at, entry_at, record_at, right_at}
use Rattle.vault_core.specs.declared.right.Right.{Right}

-- no merchant, entry, record or right is there that wasn't there before
pub record AddsNothing (old new : Vault) : Type 0 where
  pub merchants : (m : Bytes) → is_some (merchant_at new m) ≡ true → is_some (merchant_at old m) ≡ true
  pub entries : (m token : Bytes) → is_some (entry_at new m token) ≡ true
      → is_some (entry_at old m token) ≡ true
  pub records : (caller : Bytes) (request : ℕ)
      → is_some (record_at new caller request) ≡ true → is_some (record_at old caller request) ≡ true
  pub rights : (caller m : Bytes) (right : Right)
      → is_some (right_at new caller m right) ≡ true → is_some (right_at old caller m right) ≡ true
