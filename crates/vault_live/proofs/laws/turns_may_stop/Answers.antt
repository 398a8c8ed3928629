use Rattle.vault_live.proofs.Turning.{parted_turns}
use Rattle.vault_live.proofs.laws.turns_may_stop.Goals as goal

pub returns : goal.returns
returns g c = λ time office first more V W turns.
    let tells = g.K.Timekeeper.tells time in
    parted_turns tells (g.O.Office.asks office tells) first more V W turns
