use Rattle.vault_recover.proofs.NumbersGiven.{is_within}
use Rattle.vault_recover.proofs.laws.given_is_within.Goals as goal

pub returns : goal.returns
returns c = is_within
