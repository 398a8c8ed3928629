use Rattle.std.proofs.Common.{arith}
use Rattle.vault_core.proofs.Counted.{counts_follow}
use Rattle.vault_engine.specs.Asking.{commands_of, vault_after}
use Rattle.vault_engine.proofs.Listing.{vault_after-append}
use Rattle.vault_http.proofs.laws.numbers_are_counted.Goals as goal

pub returns : goal.returns
unfolding vault_after
returns c = λ V xs later m.
    let first = (counts_follow V (commands_of xs) m).0 in
    let then = (counts_follow (vault_after V xs) (commands_of later) m).0 in
    rw (vault_after-append V xs later) (omega (arith, first, then))
