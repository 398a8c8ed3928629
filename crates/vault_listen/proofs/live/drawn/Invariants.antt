use Rattle.std.proofs.Common.{ℕ, ◌<◌, get_or}
use Rattle.vault_listen.proofs.live.drawn.Given as goal

abbrev pub invariant-loop-value : goal.invariant-loop-value
invariant-loop-value g l = (k d : ℕ) → k < l.value-index → get_or l.value-items k d < 10
