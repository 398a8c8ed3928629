use Rattle.std.proofs.Common.{subst, sym}
use Rattle.sqlite_wal.specs.Recovery.{Image}
use Rattle.vault_file.proofs.host.HostPathsPaths.open.Goals as goal
use Rattle.vault_recover.specs.Crashed.{IsOpenOf, Keeps, KeepsEither, KeepsFirst}

pub returns-in-Ok-open_path-clause-opened : goal.returns-in-Ok-open_path-clause-opened
returns-in-Ok-open_path-clause-opened g c image is clean =
    subst (λ (x : Image). IsOpenOf x c.in-Ok-open_path.conn) (sym is) (c.in-Ok-open_path.ensures.opened clean)

pub returns-in-Ok-open_path-clause-again : goal.returns-in-Ok-open_path-clause-again
returns-in-Ok-open_path-clause-again g c image is clean V keeps =
    c.in-Ok-open_path.ensures.again clean V (subst (λ (x : Image). Keeps x V) is keeps)

pub returns-in-Ok-open_path-clause-either : goal.returns-in-Ok-open_path-clause-either
returns-in-Ok-open_path-clause-either g c image is clean V W keeps =
    c.in-Ok-open_path.ensures.either clean V W (subst (λ (x : Image). KeepsEither x V W) is keeps)

pub returns-in-Ok-open_path-clause-first : goal.returns-in-Ok-open_path-clause-first
returns-in-Ok-open_path-clause-first g c image is clean before blank keeps =
    c.in-Ok-open_path.ensures.first clean before blank (subst (λ (x : Image). KeepsFirst x before) is keeps)
