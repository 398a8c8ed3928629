use Rattle.vault_promise.proofs.Again.{runs_answer_again}
use Rattle.vault_promise.proofs.answers_again.Goals as goal

pub returns : goal.returns
returns g c = runs_answer_again c.answers_stand.ensures
