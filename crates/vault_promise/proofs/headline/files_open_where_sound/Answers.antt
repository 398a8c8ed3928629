use Rattle.vault_promise.proofs.headline.files_open_where_sound.Goals as goal

pub returns : goal.returns
returns g c = c.promise_is_kept.ensures.opens
