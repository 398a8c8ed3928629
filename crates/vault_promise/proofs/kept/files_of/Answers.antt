use Rattle.vault_promise.proofs.Returned.{may_be_left, was_clean}
use Rattle.vault_promise.proofs.kept.files_of.Goals as goal

pub returns-clause-clean : goal.returns-clause-clean
returns-clause-clean g c clean =
    was_clean c.args.store c.close.result.log c.close.result.db c.close.ensures clean

pub returns-clause-left : goal.returns-clause-left
returns-clause-left g c clean next may =
    may_be_left c.args.store c.close.result.log c.close.result.db c.close.ensures clean next may
