use Rattle.std.proofs.Common.{[], inl, refl}
use Rattle.vault_listen.proofs.ServedConnections.{none_then}
use Rattle.vault_jobs.proofs.listening.serve_at.Goals as goal

pub returns-in-Err-clause-does : goal.returns-in-Err-clause-does
returns-in-Err-clause-does g c = (
  [],
  λ log h. none_then (g.N.Network.tells c.listen.new.self) log (c.in-Err.ensures.fails.1 log h),
  inl (
    c.in-Err.ensures.fails.0,
    refl,
    λ V b. (b.1, g.met.T.Tables.settled _ V b.1.0 b.0),
    refl,
  ),
)
