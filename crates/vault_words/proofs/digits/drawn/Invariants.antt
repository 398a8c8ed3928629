use Rattle.std.proofs.Common.{◌≡◌, ℕ, ◌-◌, ◌%◌, ◌<◌, get_or, length}
use Rattle.vault_words.proofs.digits.drawn.Given as goal

abbrev pub invariant-loop-i : goal.invariant-loop-i
invariant-loop-i l =
    (k : ℕ) → k < l.i → get_or l.value-items k 0 ≡ get_or l.text (k % length l.text) 0 - 48
