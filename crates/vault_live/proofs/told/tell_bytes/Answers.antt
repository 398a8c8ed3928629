use Rattle.std.proofs.Common.{Bor, List, ℕ, arith, inr, refl, sym}
use Rattle.vault_live.proofs.Telling.{cut_short, of_error}
use Rattle.vault_live.proofs.told.tell_bytes.Goals as goal

pub returns-then-is_err : goal.returns-then-is_err
returns-then-is_err g c =
    let old = g.W.Write.contents c.args.writer.now.inner in
    let mid = g.W.Write.contents c.loop-part.writer.inner in
    let new = g.W.Write.contents c.send.new.writer.inner in
    let failed = sym c.if-is_err.ensures.value in
    inr (
      of_error c.send.result _ failed c.send.ensures.failed,
      cut_short (λ (part : Bor (List ℕ)). part.now) c.args.parts.now c.loop-part.part-index _ old mid new
          (omega (arith, c.loop-part-test.true, c.loop-part.auto.part-index-end))
          c.loop-part.invariant _ refl
          (of_error c.send.result _ failed c.send.ensures.err),
    )
