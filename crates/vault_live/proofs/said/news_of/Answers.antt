use Rattle.vault_live.proofs.Attending.{done_first}
use Rattle.vault_live.proofs.said.news_of.Goals as goal

pub returns : goal.returns
returns g c = λ V done.
    c.news.ensures V (done_first c.args.done c.args.commands.now V c.requires done)
