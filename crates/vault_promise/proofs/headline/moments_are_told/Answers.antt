use Rattle.vault_promise.proofs.Sentences.{moments_told}
use Rattle.vault_promise.proofs.headline.moments_are_told.Goals as goal

pub returns : goal.returns
returns g c = moments_told c.promise_is_kept.ensures.all
