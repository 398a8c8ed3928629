use Rattle.std.proofs.Common.{arith, sym, ◌∙◌}
use Rattle.std.proofs.lemmas.List.{take_rest}
use Rattle.vault_wire.proofs.SendFacts.{appends_more, takes_some}
use Rattle.vault_wire.proofs.watched.send.Goals as goal

pub loop-sent-preserved : goal.loop-sent-preserved
loop-sent-preserved g c =
    let inv = c.loop-sent.invariant in
    let more = rw take_rest at c.in-Ok.ensures.bytes in
    let flag = rw take_rest at c.in-Ok.ensures.flag in
    let some = takes_some c.loop-sent.sent c.in-Ok.n c.args.bytes.now c.loop-sent-test.true
    (sym flag ∙ sym c.failed.ensures ∙ c.if-failed.false) in (
      omega (arith, c.in-Ok.ensures.bound),
      appends_more _ _ _ _ _ _ inv.1 more,
      cc (c.in-Ok.ensures.ok, c.if-failed.false),
      λ some. cc (c.in-Ok.ensures.ok, inv.2),
      λ none. absurd (omega (arith, none, some)),
    )
