use Rattle.std.proofs.Common.{subst, sym}
use Rattle.vault_live.specs.News.{line_of}
use Rattle.vault_live.specs.Told.{Tells}
use Rattle.vault_live.proofs.Telling.{told_flushed, told_nothing}
use Rattle.vault_live.proofs.news.say.Goals as goal
use Rattle.vault_live.proofs.news.say.Goals.{in-Nothing, in_default}

pub returns-then-matches-clause-said : goal.returns-then-matches-clause-said
returns-then-matches-clause-said g c =
    let old = g.W.Write.contents c.args.output.now.inner in
    let stopped = c.args.output.now.stopped in
    elim c.match-matches.branch [
      | in-Nothing w ↦
          subst (λ news. Tells old old stopped (line_of news)) (sym w.in-Nothing.is)
          (told_nothing old stopped)
      | in_default w ↦ absurd (cc (w.matches-is, c.if-matches.true))
    ]

pub returns-clause-said : goal.returns-clause-said
returns-clause-said g c =
    told_flushed g.W.Write.contents (g.W.Write.contents c.args.output.now.inner) c.write_line.new.output
    c.flush.new.self _ c.write_line.ensures c.flush.ensures.bytes c.flush.ensures.refused
