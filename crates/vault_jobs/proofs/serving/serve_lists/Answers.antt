use Rattle.std.proofs.Common.{[], inl, refl}
use Rattle.vault_listen.proofs.ServedConnections.{none_then}
use Rattle.vault_jobs.proofs.Listed.{following, serves_then}
use Rattle.vault_jobs.specs.Lists.{follows}
use Rattle.vault_jobs.specs.Outside.{outside}
use Rattle.vault_jobs.proofs.serving.serve_lists.Goals as goal

pub returns-in-Ok-Ok-clause-does : goal.returns-in-Ok-Ok-clause-does
returns-in-Ok-Ok-clause-does g c =
    let does = c.serve_following.ensures.does in
    let it = c.args.service.now in (
      does.0,
      does.1,
      serves_then g.T.Tables.is_honest g.T.Tables.holds g.T.Tables.leaves c.args.vault.now c.begin.new.vault
          c.serve_following.new.vault it.lists c.serve_following.ensures.disk_honest
          (rw c.in-Ok-Ok.field-0-is at c.in-Ok-Ok.ensures.carried)
          (outside (g.K.Timekeeper.tells c.args.time.now) (g.D.Desk.says c.args.desk.now)) it.port
          it.connections _ _ _ _ _ does.0 does.2 c.serve_following.ensures.writer_ok,
    )

pub returns-in-Ok-Err-clause-does : goal.returns-in-Ok-Err-clause-does
returns-in-Ok-Err-clause-does g c =
    let it = c.in-Ok-Err in (
      [],
      none_then (g.N.Network.tells c.args.network.now),
      inl (
        following (follows c.args.service.now.lists) (λ none. cc (it.ensures.none none, it.field-0-is)),
        refl,
        (refl, rw it.field-0-is at it.ensures.carried),
      ),
    )

pub returns-in-Err-clause-does : goal.returns-in-Err-clause-does
returns-in-Err-clause-does g c =
    let it = c.in-Err in (
      [],
      none_then (g.N.Network.tells c.args.network.now),
      inl (
        following (follows c.args.service.now.lists) (λ none. cc (it.ensures.none none)),
        refl,
        (refl, it.ensures.carried),
      ),
    )
