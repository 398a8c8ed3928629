use Rattle.std.proofs.Common.{◌≡◌, ◌-◌, ◌+◌, ℕ, length, slice_index_or}
use Rattle.vault_rules.proofs.index.counted.count_at.Given as goal

-- what was added so far counts 0
abbrev pub invariant-loop-counts : goal.invariant-loop-counts
invariant-loop-counts l =
    (q : ℕ) → slice_index_or l.counts.items q 0 ≡ slice_index_or l.initial.counts.items q 0

abbrev pub decreases-loop-counts : goal.decreases-loop-counts
decreases-loop-counts l = l.place + 1 - length l.counts.items
