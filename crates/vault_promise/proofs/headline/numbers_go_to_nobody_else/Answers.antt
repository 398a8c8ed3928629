use Rattle.vault_promise.proofs.Sentences.{nobody_else}
use Rattle.vault_promise.proofs.headline.numbers_go_to_nobody_else.Goals as goal

pub returns : goal.returns
returns g c = nobody_else c.only_due_is_given.ensures c.each_is_due.ensures c.faults_tell_no_number.ensures
    c.promise_is_kept.ensures.all
