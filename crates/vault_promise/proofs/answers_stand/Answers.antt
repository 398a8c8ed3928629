use Rattle.vault_promise.proofs.Standing.{answers_stand}
use Rattle.vault_promise.proofs.answers_stand.Goals as goal

pub returns : goal.returns
returns g c = answers_stand c.promise_is_kept.ensures.all c.promise_is_kept.ensures.lasting
