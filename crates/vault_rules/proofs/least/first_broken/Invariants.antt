use Rattle.std.proofs.Common.{◌≡◌, ◌<◌, ℕ, true, slice_index_or}
use Rattle.vault_rules.proofs.least.first_broken.Given as goal

abbrev pub invariant-loop-is_kept : goal.invariant-loop-is_kept
invariant-loop-is_kept l = record {
  number : l.rule ≡ l.is_kept-index;
  before : (place : ℕ) → place < l.is_kept-index → slice_index_or l.kept place true ≡ true;
}
