use Rattle.std.proofs.Common.{inl, rules, subst, sym}
use Rattle.vault_core.specs.Scalar.{IsMoment}
use Rattle.vault_app.proofs.Values.{merchants_proper, set_proper}
use Rattle.vault_app.specs.TaskValues.{AreValues}
use Rattle.vault_app.proofs.commands.merchants.task.Goals as goal

pub returns-in-Err-clause-task : goal.returns-in-Err-clause-task
returns-in-Err-clause-task g c = inl (c.in-Err.ensures.fault, c.in-Err.ensures.needed)

pub returns-in-Ok-clause-proper : goal.returns-in-Ok-clause-proper
returns-in-Ok-clause-proper g c =
    let moment : IsMoment c.in-Ok.now = search (rules, c.moment.type_inv, c.in-Ok.is) in
    subst AreValues (sym c.task_of.ensures)
    (set_proper c.args.job.now.dry_run c.in_ok-rows.rows c.in-Ok.now
    (merchants_proper (g.P.Paths.says c.args.paths.now c.args.job.now.list.now) c.in-Ok.now moment
    c.in_ok-rows.rows.items c.in_ok-rows.ensures.listed))
