-- What holds of the status of each refusal holds of the status of each number.
use Rattle.std.proofs.Common.{◌≡◌, ℕ, Bool, true, false, cond, List, [], ◌∷◌, Some, refl}
use Rattle.std.specs.List.{find}
use Rattle.std.specs.Prelude.{option_map, unwrap_or}
use Rattle.std.proofs.lemmas.Bool.{eqb-true}
use Rattle.vault_refusal.specs.Refusal.{has_number, number_of, other_status, status_of}
use Rattle.vault_refusal.specs.declared.refusal.Refusal.{Refusal}

-- the status of the first of these that has the number
abbrev status_among : ℕ → List Refusal → ℕ
status_among n rs = unwrap_or (option_map status_of (find (has_number n) rs)) other_status

-- P holds of it if it holds of each refusal with the number, and of none
pub of_number : (P : ℕ → Type 0) (n : ℕ) (rs : List Refusal) → P other_status
    → ((r : Refusal) → number_of r ≡ n → P (status_of r)) → P (status_among n rs)
of_number P n [] other each = other
of_number P n (r ∷ rs) other each = go (has_number n r) refl (of_number P n rs other each)
  where
    go : (t : Bool) → has_number n r ≡ t → P (status_among n rs)
        → P (unwrap_or (option_map status_of (cond t (Some r) (find (has_number n) rs))) other_status)
    go true is more = each r (eqb-true (number_of r) n is)
    go false is more = more
