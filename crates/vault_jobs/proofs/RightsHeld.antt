-- A right among those of a vault.
use Rattle.std.proofs.Common.{◌≡◌, ◌+◌, ◌<◌, ◌||◌, ℕ, Bool, List, [], ◌∷◌, true, false, Some, cond, refl}
use Rattle.std.proofs.Common.{ap, drop, get_or, length, sym, ◌∙◌}
use Rattle.std.specs.Prelude.{is_some}
use Rattle.std.specs.FinMap as map
use Rattle.std.specs.FinMap.Entries.{find as lookup}
use Rattle.std.specs.Ordering.{eq_by_cmp, is_eq}
use Rattle.std.specs.declared.cmp.Ordering.{Ordering}
use Rattle.std.proofs.lemmas.List.{drop_more}
use Rattle.vault_core.specs.Keys.{right_cmp}
use Rattle.vault_core.specs.Vault.{Vault as Content}
use Rattle.vault_store.proofs.RightOrder.{derived_cmp, derived_is}
use Rattle.vault_changes.specs.Changes.{Held, Key, rights_of}
use Rattle.vault_jobs.specs.Notes.{has_right, is_among}

-- the order of the code says whether two rights are one
pub same_right : (a b : Key) (order : Ordering) (is : Bool) → order ≡ derived_cmp a b → is ≡ is_eq order
    → is ≡ eq_by_cmp right_cmp a b
same_right a b order is by so =
    so ∙ ap is_eq by ∙ ap (λ (R : Key → Key → Ordering). is_eq (R a b)) derived_is

module _ (held : List Held) (right : Key) (i : ℕ) (it : Held) (below : i < length held)
    (is : it ≡ get_or held i it) (so_far : is_among (drop i held) right ≡ is_among held right) where
  -- the rights from one on begin with it
  begun_at : is_among (it ∷ drop (i + 1) held) right ≡ is_among held right
  begun_at =
      ap (λ (r : Held). is_among (r ∷ drop (i + 1) held) right) is
      ∙ sym (ap (λ (rest : List Held). is_among rest right) (drop_more held i it below)) ∙ so_far

  -- it is the one
  pub found_at : eq_by_cmp right_cmp right it.0 ≡ true → true ≡ is_among held right
  found_at same = sym (ap (λ b. b || is_among (drop (i + 1) held) right) same) ∙ begun_at

  -- it isn't
  pub passed_at : eq_by_cmp right_cmp right it.0 ≡ false
      → is_among (drop (i + 1) held) right ≡ is_among held right
  passed_at other = sym (ap (λ b. b || is_among (drop (i + 1) held) right) other) ∙ begun_at

-- it is found among all
among_entries : (right : Key) (es : List Held) → is_among es right ≡ is_some (lookup right_cmp right es)
among_entries right [] = refl
among_entries right (e ∷ es) =
    elim (eq_by_cmp right_cmp right e.0) as (λ b. (b || is_among es right)
    ≡ is_some (cond b (Some e.1) (lookup right_cmp right es))) [
      | true ↦ refl
      | false ↦ among_entries right es
    ]

-- the vault holds it
pub among_rights : (V : Content) (right : Key) → is_among (rights_of V) right ≡ has_right V right
among_rights V right =
    among_entries right (map.entries V.rights) ∙ ap is_some (sym (map.get-entries V.rights right))
