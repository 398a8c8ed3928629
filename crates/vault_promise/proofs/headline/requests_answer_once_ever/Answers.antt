use Rattle.vault_promise.proofs.Sentences.{once_ever}
use Rattle.vault_promise.proofs.headline.requests_answer_once_ever.Goals as goal

pub returns : goal.returns
returns g c = once_ever c.promise_is_kept.ensures.all c.promise_is_kept.ensures.lasting
    c.requests_answer_once.ensures
