use Rattle.std.proofs.Common.{◌≡◌, true, false, length, arith}
use Rattle.vault_listen.proofs.live.drawn.Goals as goal

pub unreachable-requires : goal.unreachable-requires
unreachable-requires g c =
    let long : length c.loop-value.value-items ≡ 300 = c.loop-value-test.array_long in
    let drawn : false ≡ true =
    c.in-None.ensures.some.1
    (long, λ k d lt. c.loop-value.invariant k d (omega (arith, lt, long, c.loop-value-test.false))) in
    absurd (cc)
