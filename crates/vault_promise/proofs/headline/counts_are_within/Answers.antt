use Rattle.vault_promise.proofs.Sentences.{counts_within}
use Rattle.vault_promise.proofs.headline.counts_are_within.Goals as goal

pub returns : goal.returns
returns g c = counts_within c.promise_is_kept.ensures.all c.promise_is_kept.ensures.lasting
    c.given_is_within.ensures
