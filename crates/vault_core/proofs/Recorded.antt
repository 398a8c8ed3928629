-- The record of a request with its entry.
use Rattle.std.proofs.Common.{◌≡◌, ℕ, Option, Some, None, refl, sym, ap, ◌∙◌, subst}
use Rattle.std.specs.Prelude.{option_map, option_and_then}
use Rattle.vault_core.specs.Keys.{Bytes}
use Rattle.vault_core.specs.Repeats.{record_with_entry}
use Rattle.vault_core.specs.Sound.{Sound}
use Rattle.vault_core.specs.Vault.{Vault, entry_at, record_at}
use Rattle.vault_core.specs.declared.row.Entry.{Entry}
use Rattle.vault_core.specs.declared.row.Record.{Record}
use Rattle.vault_core.proofs.Finds.{some_same}

pub recorded-is : (V : Vault) (caller : Bytes) (request : ℕ) (r : Record) (e : Entry)
    → record_at V caller request ≡ Some r → entry_at V r.merchant r.token ≡ Some e
    → record_with_entry V caller request ≡ Some (r, e)
recorded-is V caller request r e at here =
    ap (option_and_then (λ x. option_map (λ entry. (x, entry)) (entry_at V x.merchant x.token))) at
    ∙ ap (option_map (λ entry. (r, entry))) here

-- a sound vault has an entry for each record
pub recorded-none : (V : Vault) → Sound V → (caller : Bytes) (request : ℕ)
    → record_with_entry V caller request ≡ None
    → record_at V caller request ≡ None
recorded-none V s caller request none = go (record_at V caller request) refl
  where
    go : (o : Option Record) → record_at V caller request ≡ o → record_at V caller request ≡ None
    go None e = e
    go (Some r) e =
        let entry = (s.records caller request r e).2 in
        let clash = sym none ∙ recorded-is V caller request r entry.0 e entry.1 in cc

pub recorded-some : (V : Vault) (caller : Bytes) (request : ℕ) (x : Record × Entry)
    → record_with_entry V caller request ≡ Some x
    → (record_at V caller request ≡ Some x.0) × (entry_at V x.0.merchant x.0.token ≡ Some x.1)
recorded-some V caller request x is = go (record_at V caller request) refl
  where
    entered : (r : Record) (o : Option Entry) → option_map (λ (entry : Entry). (r, entry)) o ≡ Some x
        → (r ≡ x.0) × (o ≡ Some x.1)
    entered r None h = cc
    entered r (Some e) h =
        (ap (λ (y : Record × Entry). y.0) (some_same h), ap (λ (y : Record × Entry). Some y.1) (some_same h))

    go : (o : Option Record) → record_at V caller request ≡ o
        → (record_at V caller request ≡ Some x.0) × (entry_at V x.0.merchant x.0.token ≡ Some x.1)
    go None e = let clash =
        sym (ap (option_and_then (λ (r : Record). option_map (λ (entry : Entry). (r, entry))
        (entry_at V r.merchant r.token))) e) ∙ is in cc
    go (Some r) e =
        let h = entered r (entry_at V r.merchant r.token)
        (sym (ap (option_and_then (λ (r : Record). option_map (λ (entry : Entry). (r, entry))
        (entry_at V r.merchant r.token))) e) ∙ is) in
        (e ∙ ap Some h.0, subst (λ (y : Record). entry_at V y.merchant y.token ≡ Some x.1) h.0 h.1)
