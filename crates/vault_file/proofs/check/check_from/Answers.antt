use Rattle.std.proofs.Common.{arith}
use Rattle.sqlite.specs.Files.{file_state}
use Rattle.vault_file.proofs.Leaving.{checked_leaves}
use Rattle.vault_file.proofs.Opening.{found_in, spares, still_held, tells_found}
use Rattle.vault_file.proofs.Whole.{checked_less, leaves_whole, whose_of}
use Rattle.vault_file.proofs.check.check_from.Goals as goal

pub returns-in-Ok-check-clause-sizes : goal.returns-in-Ok-check-clause-sizes
returns-in-Ok-check-clause-sizes g c image holds clean = (
  (file_state c.in-Ok.conn).now,
  found_in (c.in-Ok.ensures.opened image holds)
      (omega (arith, c.check.ensures.nothing_new.clean, clean)),
  record {
    whose = whose_of c.told-told.result.1 (file_state c.in-Ok.conn).now.schema c.told-told.ensures.holder
        (λ other. c.in-Ok-check.ensures.foreign.refused other);
    sizes_are = c.in-Ok-check.ensures.sound clean;
  },
)

pub returns-in-Ok-check-clause-kept : goal.returns-in-Ok-check-clause-kept
returns-in-Ok-check-clause-kept g c image holds clean V sound keeps =
    let held = c.in-Ok.ensures.again image holds (omega (arith, c.check.ensures.nothing_new.clean, clean)) V
    keeps in
    still_held (file_state c.in-Ok.conn) (file_state c.check.new.conn)
    (c.in-Ok-check.ensures.kept clean held.schema) c.check.ensures.nothing_new.limit V held

pub returns-in-Err-check-clause-rightly : goal.returns-in-Err-check-clause-rightly
returns-in-Err-check-clause-rightly g c image holds clean =
    let rows = c.in-Err-check.ensures.rows in
    record {
      tells = tells_found (c.in-Ok.ensures.opened image holds) (c.in-Ok.ensures.again image holds)
          c.check.new.conn c.in-Err-check.fault rows.spared (λ some. c.check.ensures.nothing_new.clean) clean
          (rows.damaged clean) (rows.wrong clean);
      spared = spares (c.in-Ok.ensures.opened image holds) (c.in-Ok.ensures.again image holds)
          c.check.new.conn c.in-Err-check.fault rows.spared (λ some. c.check.ensures.nothing_new.clean) clean
          (c.in-Ok.ensures.either image holds) (c.in-Ok.ensures.first image holds);
    }

pub returns-in-Ok-check-clause-same : goal.returns-in-Ok-check-clause-same
returns-in-Ok-check-clause-same g c image holds =
    leaves_whole image c.in-Ok.conn c.check.new.conn (c.in-Ok.ensures.opened image holds)
    c.settled.ensures c.check.ensures.nothing_new.clean
    (checked_less c.in-Ok.conn c.check.new.conn c.told-told.result.0 c.told-told.ensures.version
    c.check.ensures.nothing_new c.check.ensures.untouched)

pub returns-in-Err-check-clause-same : goal.returns-in-Err-check-clause-same
returns-in-Err-check-clause-same g c image holds =
    leaves_whole image c.in-Ok.conn c.check.new.conn (c.in-Ok.ensures.opened image holds)
    c.settled.ensures c.check.ensures.nothing_new.clean
    (checked_less c.in-Ok.conn c.check.new.conn c.told-told.result.0 c.told-told.ensures.version
    c.check.ensures.nothing_new c.check.ensures.untouched)

pub returns-in-Ok-check-clause-left : goal.returns-in-Ok-check-clause-left
returns-in-Ok-check-clause-left g c image holds =
    checked_leaves image c.in-Ok.conn c.check.new.conn (c.in-Ok.ensures.opened image holds)
    c.in-Ok.ensures.unlimited c.settled.ensures c.check.ensures.nothing_new c.check.ensures.untouched
    (c.in-Ok.ensures.again image holds) (c.in-Ok.ensures.either image holds)
    (c.in-Ok.ensures.first image holds)

pub returns-in-Err-check-clause-left : goal.returns-in-Err-check-clause-left
returns-in-Err-check-clause-left g c image holds =
    checked_leaves image c.in-Ok.conn c.check.new.conn (c.in-Ok.ensures.opened image holds)
    c.in-Ok.ensures.unlimited c.settled.ensures c.check.ensures.nothing_new c.check.ensures.untouched
    (c.in-Ok.ensures.again image holds) (c.in-Ok.ensures.either image holds)
    (c.in-Ok.ensures.first image holds)

pub returns-in-Ok-check-clause-no_path : goal.returns-in-Ok-check-clause-no_path
returns-in-Ok-check-clause-no_path g c none = absurd (cc (c.in-Ok.ensures.no_path none))

pub returns-in-Err-check-clause-no_path : goal.returns-in-Err-check-clause-no_path
returns-in-Err-check-clause-no_path g c none = absurd (cc (c.in-Ok.ensures.no_path none))
