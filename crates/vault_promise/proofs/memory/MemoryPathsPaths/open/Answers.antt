use Rattle.std.proofs.Common.{subst, sym}
use Rattle.sqlite_wal.specs.Recovery.{Image}
use Rattle.vault_promise.proofs.memory.MemoryPathsPaths.open.Goals as goal
use Rattle.vault_recover.specs.Crashed.{IsOpenOf, Keeps, KeepsEither, KeepsFirst}

pub returns-in-Some-clause-opened : goal.returns-in-Some-clause-opened
returns-in-Some-clause-opened c image is clean =
    subst (λ (x : Image). IsOpenOf x c.in-Some.conn) (sym is) (c.in-Some.ensures.opened clean)

pub returns-in-Some-clause-again : goal.returns-in-Some-clause-again
returns-in-Some-clause-again c image is clean V keeps =
    c.in-Some.ensures.again clean V (subst (λ (x : Image). Keeps x V) is keeps)

pub returns-in-Some-clause-either : goal.returns-in-Some-clause-either
returns-in-Some-clause-either c image is clean V W keeps =
    c.in-Some.ensures.either clean V W (subst (λ (x : Image). KeepsEither x V W) is keeps)

pub returns-in-Some-clause-first : goal.returns-in-Some-clause-first
returns-in-Some-clause-first c image is clean before blank keeps =
    c.in-Some.ensures.first clean before blank (subst (λ (x : Image). KeepsFirst x before) is keeps)
