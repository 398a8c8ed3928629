use Rattle.vault_jobs.proofs.Flushing.{told_after}
use Rattle.vault_jobs.proofs.answer.answer.Goals as goal

pub returns-then-is_err-clause-cut : goal.returns-then-is_err-clause-cut
returns-then-is_err-clause-cut g c =
    told_after (g.W.Write.contents c.args.output.now.inner) (g.W.Write.contents c.tell.new.writer.inner)
    (g.W.Write.contents c.flush.new.self.inner) _ _ c.tell.ensures c.flush.ensures.bytes
