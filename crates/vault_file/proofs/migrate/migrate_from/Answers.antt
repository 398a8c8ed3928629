use Rattle.std.proofs.Common.{ap, arith}
use Rattle.sqlite.specs.Files.{file_state}
use Rattle.vault_file.proofs.Leaving.{leaves_from}
use Rattle.vault_file.proofs.Moving.{leaves_old, movable, moves_from, never_in, never_some, tells_old}
use Rattle.vault_file.proofs.Opening.{spares}
use Rattle.vault_file.proofs.Whole.{leaves_whole, none_older, some_there}
use Rattle.vault_file.proofs.migrate.migrate_from.Goals as goal
use Rattle.vault_file.specs.declared.fault.NotOpened.TheVariants.{Fault}

pub returns-in-Ok-migrate_all-clause-moved : goal.returns-in-Ok-migrate_all-clause-moved
returns-in-Ok-migrate_all-clause-moved g c image holds =
    moves_from c.migrate_all.new.conn (c.in-Ok.ensures.opened image holds) c.in-Ok.ensures.unlimited
    c.migrate_all.ensures.migrates.clean
    c.in-Ok-migrate_all.ensures.migrates.moved c.in-Ok-migrate_all.ensures.migrates.blank c.in-Ok-migrate_all.ensures.migrates.sound
    (c.in-Ok.ensures.either image holds)
    (c.in-Ok.ensures.first image holds) c.in-Ok-migrate_all.ensures.known c.in-Ok-migrate_all.ensures.stood

pub returns-in-Err-migrate_all-clause-rightly : goal.returns-in-Err-migrate_all-clause-rightly
returns-in-Err-migrate_all-clause-rightly g c image holds clean =
    let opened = c.in-Ok.ensures.opened image holds in
    let last = c.migrate_all.new.conn in
    let was = c.migrate_all.ensures.migrates.clean in
    let migrates = c.in-Err-migrate_all.ensures.migrates in
    record {
      tells = tells_old last opened c.in-Ok.ensures.unlimited was c.in-Err-migrate_all.fault clean
          (migrates.damaged clean) (migrates.wrong clean);
      in_version = never_in last opened c.in-Ok.ensures.unlimited was c.in-Err-migrate_all.fault migrates.spared clean;
      in_some = never_some last opened c.in-Ok.ensures.unlimited was c.in-Err-migrate_all.fault migrates.spared clean;
      spared = spares opened (c.in-Ok.ensures.again image holds) last c.in-Err-migrate_all.fault
          (λ clean fit. migrates.spared clean (movable (file_state c.in-Ok.conn).now fit))
          (λ some. was) clean (c.in-Ok.ensures.either image holds) (c.in-Ok.ensures.first image holds);
    }

pub returns-in-Err-migrate_all-clause-left : goal.returns-in-Err-migrate_all-clause-left
returns-in-Err-migrate_all-clause-left g c image holds =
    let first = c.in-Ok.conn in
    let opened = c.in-Ok.ensures.opened image holds in
    let last = c.migrate_all.new.conn in
    let was = c.migrate_all.ensures.migrates.clean in
    record {
      left = leaves_from image first last opened c.in-Ok.ensures.unlimited
          (λ clean. (c.migrate_all.ensures.crash clean).found) was
          (λ clean. (c.migrate_all.ensures.crash clean).older) (c.in-Ok.ensures.again image holds)
          (c.in-Ok.ensures.either image holds) (c.in-Ok.ensures.first image holds);
      old = leaves_old last opened c.in-Ok.ensures.unlimited was c.in-Err-migrate_all.fault
          (λ clean. (c.migrate_all.ensures.crash clean).older) c.in-Err-migrate_all.ensures.migrates.stays;
      same = λ other. leaves_whole image first last opened c.settled.ensures was
          (λ clean. c.in-Err-migrate_all.ensures.migrates.unwritten clean
          (λ same. other (ap (λ fault. Fault fault) same)));
      same_unmoved = λ some none. leaves_whole image first last opened c.settled.ensures was
          (λ clean. c.in-Err-migrate_all.ensures.migrates.unmoved clean
          (none_older image first opened none (omega (arith, c.migrate_all.ensures.migrates.clean, clean)))
          (some_there image first opened some (omega (arith, c.migrate_all.ensures.migrates.clean, clean))));
    }

pub returns-in-Ok-migrate_all-clause-no_path : goal.returns-in-Ok-migrate_all-clause-no_path
returns-in-Ok-migrate_all-clause-no_path g c none = absurd (cc (c.in-Ok.ensures.no_path none))

pub returns-in-Err-migrate_all-clause-no_path : goal.returns-in-Err-migrate_all-clause-no_path
returns-in-Err-migrate_all-clause-no_path g c none = absurd (cc (c.in-Ok.ensures.no_path none))
