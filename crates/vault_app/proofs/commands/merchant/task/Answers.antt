use Rattle.std.proofs.Common.{inl}
use Rattle.vault_app.proofs.commands.merchant.task.Goals as goal

pub returns-in-Err-clause-task : goal.returns-in-Err-clause-task
returns-in-Err-clause-task g c = inl (c.in-Err.ensures.fault, c.in-Err.ensures.needed)
