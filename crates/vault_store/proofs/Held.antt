-- The live multi-use token of a number, read in two steps.
use Rattle.std.proofs.Common.{◌≡◌, ℕ, Option, Some, None, sym, ap, ◌∙◌}
use Rattle.std.specs.Prelude.{option_map}
use Rattle.vault_core.specs.Keys.{Bytes}
use Rattle.vault_core.specs.Repeats.{current}
use Rattle.vault_core.specs.Vault.{Vault, entry_at}
use Rattle.vault_core.specs.declared.row.Entry.{Entry}
use Rattle.vault_core.proofs.CurrentLemmas.{current-some}
use Rattle.vault_core.proofs.Finds.{some_same}

-- the token that is held, with its entry
held_is : (o : Option (Bytes × Entry)) (token : Bytes) → Some token ≡ option_map (λ held. held.0) o
    → (entry : Entry) × (o ≡ Some (token, entry))
held_is None token h = cc
held_is (Some held) token h = (held.1, ap (λ t. Some (t, held.1)) (sym (some_same h)))

pub held_pair : (V : Vault) (m pan : Bytes) (at : ℕ) (token : Bytes) (entry : Entry)
    → Some token ≡ option_map (λ held. held.0) (current V m pan at) → entry_at V m token ≡ Some entry
    → current V m pan at ≡ Some (token, entry)
held_pair V m pan at token entry is found =
    let held = held_is (current V m pan at) token is in
    let there = (current-some V m pan at (token, held.0) held.1).0 in
    held.1 ∙ ap (λ e. Some (token, e)) (some_same (sym there ∙ found))

pub held_none : (V : Vault) (m pan : Bytes) (at : ℕ) (token : Bytes)
    → Some token ≡ option_map (λ held. held.0) (current V m pan at) → entry_at V m token ≡ None → ⊥
held_none V m pan at token is none =
    let held = held_is (current V m pan at) token is in
    let there = (current-some V m pan at (token, held.0) held.1).0 in
    let clash = sym there ∙ none in cc
