use Rattle.std.proofs.Common.{◌∷◌, [], ◌∙◌, arith}
use Rattle.vault_listen.specs.Peers.Event.{Lost}
use Rattle.vault_listen.proofs.ServedConnections.{came_in_both, came_one}
use Rattle.vault_listen.proofs.tcp.TcpPeersPeers.accept.Goals as goal

pub returns-in-Some-stream-clause-comes : goal.returns-in-Some-stream-clause-comes
returns-in-Some-stream-clause-comes g c = λ log same.
    came_one _ _ c.opened.result log ∙ omega (arith, same, c.in-Some.ensures)

pub returns-in-None-clause-comes : goal.returns-in-None-clause-comes
returns-in-None-clause-comes g c = λ log same.
    omega (arith, same, came_in_both log (Lost ∷ []), c.in-Some.ensures)
