use Rattle.vault_changes.proofs.Changing.{grants_carried}
use Rattle.vault_jobs.proofs.grants.give_all.Goals as goal

pub carry_all-requires-clause-carried : goal.carry_all-requires-clause-carried
carry_all-requires-clause-carried g c = grants_carried c.args.now c.args.rights.now
