use Rattle.vault_listen.proofs.Turns.{begun_with}
use Rattle.vault_jobs.proofs.source.pairs.Goals as goal

pub returns-clause-begins : goal.returns-clause-begins
returns-clause-begins g c =
    begun_with g.K.Questions.Questions.tells g.K.Questions.Questions.told
    (g.K.Timekeeper.tells c.args.time.now) c.questions.result c.args.moment c.args.digits c.fixed.result
    c.fixed.ensures.fixed c.questions.ensures.fresh c.questions.ensures.same
