use Rattle.std.proofs.Common.{arith, length, sym, subst}
use Rattle.std.specs.Io.KnownBytes.{Appends}
use Rattle.std.proofs.lemmas.List.{take_all}
use Rattle.vault_jobs.proofs.Flushing.{kept_after}
use Rattle.vault_live.proofs.Telling.{of_ok}
use Rattle.vault_jobs.proofs.answer.answer_text.Goals as goal

pub returns-then-is_err-2-clause-cut : goal.returns-then-is_err-2-clause-cut
returns-then-is_err-2-clause-cut g c =
    let text = c.args.text.now in
    let old = g.W.Write.contents c.args.output.now.inner in
    let new = g.W.Write.contents c.flush.new.self.inner in (
      length text,
      subst (λ bs. Appends old new bs) (sym (take_all (length text) text (omega arith)))
          (kept_after old (g.W.Write.contents c.send.new.writer.inner) new text
          (of_ok c.send.result _ (sym c.if-is_err.ensures.value) c.send.ensures.ok)
          c.flush.ensures.bytes),
    )
