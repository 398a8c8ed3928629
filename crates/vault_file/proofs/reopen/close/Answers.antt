use Rattle.std.proofs.Common.{sym, ◌∙◌}
use Rattle.sqlite.specs.Files.{file_state}
use Rattle.sqlite_store.specs.Laws.{settled_at}
use Rattle.vault_file.proofs.Closed.{reopens_as}
use Rattle.vault_file.proofs.reopen.close.Goals as goal

pub returns-clause-before : goal.returns-clause-before
returns-clause-before g c clean =
    reopens_as c.args.conn.store
    (sym c.into_store.ensures.undone.numbered ∙ c.into_store.ensures.numbered clean) (file_state c.args.conn)
    (λ is_open db. settled_at c.args.conn.store g.met.D.Disk.seen_may_stay db is_open) (λ db left. left)

pub returns-clause-after : goal.returns-clause-after
returns-clause-after g c clean =
    reopens_as c.into_store.result (c.into_store.ensures.numbered clean) (file_state c.args.conn)
    (λ is_open db. settled_at c.args.conn.store g.met.D.Disk.seen_may_stay db is_open)
    c.into_store.ensures.quiet.outcomes
