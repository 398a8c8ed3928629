-- Rights and their numbers.
use Rattle.std.proofs.Common.{◌≡◌, ℕ, zero, suc, ℤ, pos, ◌≤◌, refl, sym, ap, ◌∙◌, arith}
use Rattle.vault_core.specs.Numbers.{right_number}
use Rattle.vault_rules.specs.Codes.{natural, right_of}
use Rattle.vault_rules.proofs.Numbers.{IsBetween}

numbered : (n : ℕ) → 1 ≤ n → n ≤ 6 → n ≡ right_number (right_of (pos n))
numbered zero low high = absurd (omega arith)
numbered (suc zero) low high = refl
numbered (suc (suc zero)) low high = refl
numbered (suc (suc (suc zero))) low high = refl
numbered (suc (suc (suc (suc zero)))) low high = refl
numbered (suc (suc (suc (suc (suc zero))))) low high = refl
numbered (suc (suc (suc (suc (suc (suc zero)))))) low high = refl
numbered (suc (suc (suc (suc (suc (suc (suc n))))))) low high = absurd (omega arith)

-- a number from one to six is that of its right
pub what_is : (z : ℤ) → IsBetween 1 6 z → z ≡ pos (right_number (right_of z))
what_is z well =
    well.is ∙ ap pos (numbered (natural z) well.low_is well.high_is)
    ∙ ap (λ n. pos (right_number (right_of n))) (sym well.is)
