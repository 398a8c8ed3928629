use Rattle.sqlite_wal.specs.Files.{image_at}
use Rattle.vault_recover.proofs.Reopened.{first_again, held_again, one_again}
use Rattle.vault_recover.proofs.reopen.open_path.Goals as goal

pub returns-in-Ok-clause-holds : goal.returns-in-Ok-clause-holds
returns-in-Ok-clause-holds g c clean =
    held_again (image_at g.S.Start) c.in-Ok.opened (c.in-Ok.ensures.opened clean)
    c.in-Ok.ensures.fresh.unlimited

pub returns-in-Ok-clause-again : goal.returns-in-Ok-clause-again
returns-in-Ok-clause-again g c clean V keeps =
    returns-in-Ok-clause-holds g c clean V (keeps _ (c.in-Ok.ensures.opened clean).found.holds)

pub returns-in-Ok-clause-either : goal.returns-in-Ok-clause-either
returns-in-Ok-clause-either g c clean =
    one_again (image_at g.S.Start) c.in-Ok.opened (c.in-Ok.ensures.opened clean)
    c.in-Ok.ensures.fresh.unlimited

pub returns-in-Ok-clause-first : goal.returns-in-Ok-clause-first
returns-in-Ok-clause-first g c clean =
    first_again (image_at g.S.Start) c.in-Ok.opened (c.in-Ok.ensures.opened clean)
    c.in-Ok.ensures.fresh.unlimited
