use Rattle.sqlite_store.specs.Laws.{settled_at}
use Rattle.vault_file.proofs.reopen.settled.Goals as goal

pub returns : goal.returns
returns g c is_open db left = settled_at c.args.conn.now.store g.met.D.Disk.seen_may_stay db is_open left
