use Rattle.std.proofs.Common.{inl}
use Rattle.vault_app.proofs.commands.trial.plan.Goals as goal

pub returns-in-Err-clause-trial : goal.returns-in-Err-clause-trial
returns-in-Err-clause-trial g c = inl (c.in-Err.ensures.fault, c.in-Err.ensures.needed)
