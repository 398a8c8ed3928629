use Rattle.vault_app.proofs.FollowedFiles.{merchant_values, rights_values}
use Rattle.vault_app.specs.World.{World, looked}
use Rattle.vault_app.proofs.commands.serve.task.Goals as goal

pub returns-clause-proper : goal.returns-clause-proper
returns-clause-proper g c =
    let world : World = looked (g.K.Timekeeper.tells c.args.time.now) (g.D.Desk.says c.args.desk.now) in (
      merchant_values world c.args.job.now.merchants c.in-Ok.merchants c.in-Ok.ensures.listed
          c.in-Ok.ensures.moment,
      rights_values world c.args.job.now.rights c.in-Ok-list_at.rights c.in-Ok-list_at.ensures.listed
          c.in-Ok-list_at.ensures.moment,
    )
