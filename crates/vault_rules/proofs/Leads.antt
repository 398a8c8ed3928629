-- Leads and their numbers of digits.
use Rattle.std.proofs.Common.{◌≡◌, inl, inr, ℤ, pos, ◌||◌, true, sym, ap, ◌∙◌}
use Rattle.std.specs.Ordering.{int_eq}
use Rattle.std.proofs.lemmas.Bool.{or_cases, or_left, or_right}
use Rattle.vault_pan.specs.Mask.{lead_digits}
use Rattle.vault_pan.specs.declared.lead.Lead.{Lead}
use Rattle.vault_pan.specs.declared.lead.Lead.TheVariants.{Six, Eight}
use Rattle.vault_rules.specs.Codes.{lead_of}
use Rattle.vault_rules.proofs.Numbers.{int_is, int_same}

-- six or eight is the number of digits of its lead
pub lead_is : (z : ℤ) → (int_eq z (pos 6) || int_eq z (pos 8)) ≡ true → z ≡ pos (lead_digits (lead_of z))
lead_is z h = elim (or_cases (int_eq z (pos 6)) (int_eq z (pos 8)) h) [
  | inl six ↦
      let is = int_is z (pos 6) six in
      is ∙ ap (λ n. pos (lead_digits (lead_of n))) (sym is)
  | inr eight ↦
      let is = int_is z (pos 8) eight in
      is ∙ ap (λ n. pos (lead_digits (lead_of n))) (sym is)
]

-- the number of digits of a lead is six or eight
pub lead_from : (lead : Lead) (z : ℤ) → z ≡ pos (lead_digits lead)
    → (int_eq z (pos 6) || int_eq z (pos 8)) ≡ true
lead_from Six z is = or_left (int_eq z (pos 6)) (int_eq z (pos 8)) (int_same z (pos 6) is)
lead_from Eight z is = or_right (int_eq z (pos 6)) (int_eq z (pos 8)) (int_same z (pos 8) is)
