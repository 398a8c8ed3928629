-- The status of each number of a refusal is one that the service answers with, and 405 is that of 57 alone.
use Rattle.std.proofs.Common.{◌≡◌, ℕ, ◌==◌, false, true≢false, refl, sym, ap, ◌∙◌, subst}
use Rattle.std.specs.Prelude.{◌↔◌, option_map, unwrap_or}
use Rattle.std.proofs.lemmas.Bool.{eq-eqb}
use Rattle.vault_refusal.specs.Refusal.{number_of, other_status, refusals, status_of}
use Rattle.vault_refusal.specs.declared.refusal.Refusal.{Refusal}
use Rattle.vault_refusal.specs.declared.refusal.Refusal.TheVariants.{BadNumber, BadMethod}
use Rattle.vault_refusal.proofs.Numbers.{numbered_itself}
use Rattle.vault_refusal.proofs.Statuses.{of_number}
use Rattle.vault_wire.specs.Status.{IsStatus}
use Rattle.vault_routes.specs.Status.{status_for}

is_status : (r : Refusal) → IsStatus (status_of r)
is_status BadNumber = refl
is_status other = refl

pub status_is : (n : ℕ) → IsStatus (status_for n)
status_is n = of_number IsStatus n refusals refl (λ r is. is_status r)

unlike : (a b : ℕ) → (a == b) ≡ false → a ≡ b → ⊥
unlike a b apart e = true≢false (sym (eq-eqb a b e) ∙ apart)

only_one : (n : ℕ) (r : Refusal) → number_of r ≡ n → status_of r ≡ 405 → n ≡ 57
only_one n BadMethod is code = sym is
only_one n other is code = absurd (unlike (status_of other) 405 refl code)

pub with_57 : (n : ℕ) → (status_for n ≡ 405) ↔ (n ≡ 57)
with_57 n = (
  of_number (λ s. s ≡ 405 → n ≡ 57) n refusals (λ code. absurd (unlike 507 405 refl code)) (only_one n),
  λ is. subst (λ k. status_for k ≡ 405) (sym is) refl,
)

-- a refusal's own status is that of its number
pub status_itself : (r : Refusal) → status_of r ≡ status_for (number_of r)
status_itself r =
    sym (ap (λ found. unwrap_or (option_map status_of found) other_status) (numbered_itself r))
