use Rattle.vault_promise.proofs.Sentences.{rights_follow}
use Rattle.vault_promise.proofs.headline.rights_follow_their_list.Goals as goal

pub returns : goal.returns
returns g c = rights_follow c.rights_become_exact.ensures c.promise_is_kept.ensures.all
