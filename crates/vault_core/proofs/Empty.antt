-- The empty vault is sound.
use Rattle.std.proofs.Common.{◌≡◌, Option, Some, None, Bool, true, false, cond, refl, arith, sym, ap, ◌∙◌}
use Rattle.std.specs.FinMap as map
use Rattle.std.specs.Ordering.{eq_by_cmp}
use Rattle.vault_core.specs.Keys.{Bytes, bytes_cmp, entry_cmp, record_cmp, right_cmp}
use Rattle.vault_core.specs.Sound.{Sound}
use Rattle.vault_core.specs.Vault.{Merchant, empty_vault, merchant_at, entry_at, record_at}
use Rattle.vault_core.specs.declared.row.Entry.{Entry}
use Rattle.vault_core.proofs.Maps.{entry_total, entry_exact, get-retained}

none_some : {X : Type 0} (o : Option X) (x : X) → o ≡ None → o ≡ Some x → ⊥
none_some o x a b = let clash = sym a ∙ b in cc

cond_none : {X : Type 0} (b : Bool) (o : Option X) → o ≡ None → cond b o None ≡ o
cond_none true o h = refl
cond_none false o h = sym h

no_entries : (p : Bytes × Bytes → Bool) → map.retain_keys empty_vault.entries p ≡ empty_vault.entries
no_entries p =
    map.same_map entry_total entry_exact (map.retain_keys empty_vault.entries p) empty_vault.entries
    (λ q. get-retained entry_total entry_exact empty_vault.entries p q
    ∙ cond_none (p q) (map.get empty_vault.entries q) (map.get-empty entry_cmp q))

pub sound-empty : Sound empty_vault
sound-empty = record {
  few = let none = map.len-empty bytes_cmp Merchant in omega (arith, none);
  merchants = λ m merchant h. absurd (none_some (merchant_at empty_vault m) merchant
      (map.get-empty bytes_cmp m) h);
  made_few = λ m.
      let none = ap map.len (no_entries (λ key. eq_by_cmp bytes_cmp m key.0))
      ∙ map.len-empty entry_cmp Entry in
      omega (arith, none);
  entries = λ m token entry h. absurd (none_some (entry_at empty_vault m token) entry
      (map.get-empty entry_cmp (m, token)) h);
  alone = λ m pan token other entry entry' merchant h _ _ _ _. absurd
      (none_some (merchant_at empty_vault m) merchant (map.get-empty bytes_cmp m) h);
  records = λ caller request r h. absurd (none_some (record_at empty_vault caller request) r
      (map.get-empty record_cmp (caller, request)) h);
  rights = λ caller m right g h. absurd (none_some (map.get empty_vault.rights (caller, (m, right))) g
      (map.get-empty right_cmp (caller, (m, right))) h);
}
