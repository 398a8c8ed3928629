-- The bytes that files show are some that a stop may leave of them.
use Rattle.std.proofs.Common.{◌≡◌, Bool, true, false, IsTrue, arith, refl}
use Rattle.sqlite.specs.View.{doubt}
use Rattle.sqlite_disk.specs.declared.Disk.{Ghosts}
use Rattle.sqlite_pool.proofs.StateLemmas.{seen_may_be_left}
use Rattle.vault_promise.specs.Runs.{ShownIsLeft}

true_of : (b : Bool) → doubt b ≡ 0 → IsTrue b
unfolding doubt
true_of true h = refl
true_of false h = absurd (omega (arith, h))

pub shown_is_left : {D : Type 0} (g : Ghosts D) → ((file : D) → g.may_leave file (g.seen file))
    → ShownIsLeft g
shown_is_left g stays image left clean = (clean, seen_may_be_left left.pool stays (true_of _ clean))
