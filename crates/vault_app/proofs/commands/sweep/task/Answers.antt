use Rattle.std.proofs.Common.{inl}
use Rattle.vault_app.proofs.commands.sweep.task.Goals as goal

pub returns-in-Err-moment-clause-task : goal.returns-in-Err-moment-clause-task
returns-in-Err-moment-clause-task g c = inl (c.in-Err-moment.ensures.fault, c.in-Err-moment.ensures.needed)
