use Rattle.vault_recover.proofs.OneToken.{answer_once}
use Rattle.vault_recover.proofs.laws.requests_answer_once.Goals as goal

pub returns : goal.returns
returns c = answer_once
