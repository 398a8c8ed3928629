-- The first of the verdicts that is false is the least rule that is broken.
use Rattle.std.proofs.Common.{◌≡◌, ◌<◌, ℕ, zero, suc, Bool, true, List, [], ◌∷◌, Option, Some}
use Rattle.std.proofs.Common.{None, slice_index_or, refl, ap, sym, subst, ◌∙◌, arith}
use Rattle.std.specs.Option.{IfNone, IfSome}
use Rattle.vault_rules.specs.AllRows.{Rows}
use Rattle.vault_rules.specs.Rules.{IsLeastBroken, Rule, keeps, rules, verdicts_of}
use Rattle.vault_rules.specs.Verdicts.{AllTold, AreToldOf, AreVerdicts, IsFirstBroken, Told}

-- what is told at a place is so, where all that is told before it is true
told_at : (rows : Rows) (rest : List Rule) (kept : List Bool) → AreToldOf rows rest kept → (n : ℕ)
    → ((other : ℕ) → other < n → slice_index_or kept other true ≡ true)
    → slice_index_or kept n true ≡ slice_index_or (verdicts_of rows rest) n true
told_at rows [] [] AllTold n before = refl
told_at rows [] (is_kept ∷ kept) are n before = elim are [ ]
told_at rows (rule ∷ rest) [] are n before = elim are [ ]
told_at rows (rule ∷ rest) (is_kept ∷ kept) (Told is behind) zero before = is
told_at rows (rule ∷ rest) (is_kept ∷ kept) (Told is behind) (suc n) before =
    told_at rows rest kept (behind (before 0 (omega arith))) n
    (λ other low. before (suc other) (omega (arith, low)))

-- where all that is told before a place is true, so are the verdicts
kept_before : (rows : Rows) (kept : List Bool) → AreVerdicts rows kept → (n : ℕ)
    → ((other : ℕ) → other < n → slice_index_or kept other true ≡ true)
    → (other : ℕ) → other < n → slice_index_or (verdicts_of rows rules) other true ≡ true
kept_before rows kept are n told other low =
    sym (told_at rows rules kept are other (λ j below. told j (omega (arith, below, low)))) ∙ told other low

-- where none that is told is false, each rule is kept
pub all_kept : (rows : Rows) (kept : List Bool) (found : Option ℕ) → AreVerdicts rows kept
    → IfNone found ((place : ℕ) → slice_index_or kept place true ≡ true) → found ≡ None
    → (r : ℕ) → keeps rows r ≡ true
all_kept rows kept None are h is zero = refl
all_kept rows kept None are h is (suc n) =
    kept_before rows kept are (suc n) (λ other low. h other) n (omega arith)
all_kept rows kept (Some rule) are h is r = absurd (cc)

least : (rows : Rows) (kept : List Bool) (rule : ℕ) → AreVerdicts rows kept → IsFirstBroken kept rule
    → IsLeastBroken rows rule
least rows kept rule are h = record {
  broken = ap (keeps rows) h.number ∙ sym (told_at rows rules kept are h.place h.before) ∙ h.broken;
  below = below;
}
  where
    below : (r : ℕ) → r < rule → keeps rows r ≡ true
    below zero inside = refl
    below (suc n) inside =
        let first = h.number in kept_before rows kept are h.place h.before n (omega arith)

-- and else the first false one is the least rule that is broken
pub first_is_least : (rows : Rows) (kept : List Bool) (found : Option ℕ) → AreVerdicts rows kept
    → IfSome found (IsFirstBroken kept) → (rule : ℕ) → found ≡ Some rule → IsLeastBroken rows rule
first_is_least rows kept None are h rule is = absurd (cc)
first_is_least rows kept (Some first) are h rule is =
    let same : first ≡ rule = cc in
    subst (λ (r : ℕ). IsLeastBroken rows r) same (least rows kept first are h)
