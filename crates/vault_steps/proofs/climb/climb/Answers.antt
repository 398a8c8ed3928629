use Rattle.std.proofs.Common.{◌-◌, ◌<◌, arith, subst, sym}
use Rattle.sqlite.specs.Held.{state}
use Rattle.sqlite.specs.State.{HasCleanDisk}
use Rattle.vault_schema.proofs.Newest.{fewer_left, newest_is}
use Rattle.vault_schema.specs.Layers.{rank}
use Rattle.vault_schema.specs.Stands.{newest}
use Rattle.vault_schema.specs.Versions.{HoldsOf}
use Rattle.vault_schema.specs.declared.version.Version.{Version}
use Rattle.vault_steps.specs.Entries.{joined}
use Rattle.vault_steps.proofs.Climbing.{nothing_given, some_of}
use Rattle.vault_steps.proofs.climb.climb.Goals as goal

pub returns-in_err-upgrade-clause-crash : goal.returns-in_err-upgrade-clause-crash
returns-in_err-upgrade-clause-crash g c clean h held are db left =
    some_of c.args.from h db (c.upgrade.ensures.crash clean h held are db left)

pub steps-init : goal.steps-init
steps-init g c = record {
  idle = c.upgrade.ensures.idle;
  clean = omega arith;
  before = c.args.from;
  led = c.next-version.ensures;
  stands = λ clean h held. held;
  left = λ clean h held some. some;
}

pub steps-smaller : goal.steps-smaller
steps-smaller g c =
    subst (λ (v : Version). rank newest - rank v < rank newest - rank c.steps.version)
    (sym c.next-version-in-steps.ensures) (fewer_left c.steps.version (sym c.steps-test.ensures))

pub steps-preserved : goal.steps-preserved
steps-preserved g c =
    let inv = c.steps.invariant in
    record {
      idle = c.upgrade-in-steps.ensures.idle;
      clean = omega (arith, inv.clean, c.upgrade-in-steps.ensures.clean);
      before = c.steps.version;
      led = c.next-version-in-steps.ensures;
      stands = λ clean h held.
          let before : HasCleanDisk (state g.S.Store c.steps.conn) =
          omega (arith, c.upgrade-in-steps.ensures.clean, clean) in
          subst (λ (v : Version). HoldsOf v h (state g.S.Store c.upgrade-in-steps.new.conn))
          (sym c.next-version-in-steps.ensures)
          (c.in_ok-upgrade-2.ensures.done clean h (inv.stands before h held)
          (nothing_given inv.before c.steps.version inv.led (joined c.new.result.items) h));
      left = λ clean h held some db may.
          let before : HasCleanDisk (state g.S.Store c.steps.conn) =
          omega (arith, c.upgrade-in-steps.ensures.clean, clean) in
          some_of c.steps.version h db (c.upgrade-in-steps.ensures.crash clean h (inv.stands before h held)
          (nothing_given inv.before c.steps.version inv.led (joined c.new.result.items) h) db may);
    }

pub returns-in_err-upgrade-2-clause-crash : goal.returns-in_err-upgrade-2-clause-crash
returns-in_err-upgrade-2-clause-crash g c clean h held are db may =
    let inv = c.steps.invariant in
    let before : HasCleanDisk (state g.S.Store c.steps.conn) =
    omega (arith, c.upgrade-in-steps.ensures.clean, clean) in
    let first : HasCleanDisk (state g.S.Store c.upgrade.new.conn) = omega (arith, inv.clean, before) in
    let one = subst (λ (v : Version). HoldsOf v h (state g.S.Store c.upgrade.new.conn))
    (sym c.next-version.ensures) (c.in_ok-upgrade.ensures.done first h held are) in
    some_of c.steps.version h db (c.upgrade-in-steps.ensures.crash clean h (inv.stands before h one)
    (nothing_given inv.before c.steps.version inv.led (joined c.new.result.items) h) db may)

pub returns-clause-done : goal.returns-clause-done
returns-clause-done g c clean h held are =
    let inv = c.steps.invariant in
    let first : HasCleanDisk (state g.S.Store c.upgrade.new.conn) = omega (arith, inv.clean, clean) in
    let one = subst (λ (v : Version). HoldsOf v h (state g.S.Store c.upgrade.new.conn))
    (sym c.next-version.ensures) (c.in_ok-upgrade.ensures.done first h held are) in
    subst (λ (v : Version). HoldsOf v h (state g.S.Store c.steps.conn))
    (newest_is c.steps.version (sym c.steps-test.ensures))
    (inv.stands clean h one)

pub returns-clause-crash : goal.returns-clause-crash
returns-clause-crash g c clean h held are db may =
    let inv = c.steps.invariant in
    let first : HasCleanDisk (state g.S.Store c.upgrade.new.conn) = omega (arith, inv.clean, clean) in
    let one = subst (λ (v : Version). HoldsOf v h (state g.S.Store c.upgrade.new.conn))
    (sym c.next-version.ensures) (c.in_ok-upgrade.ensures.done first h held are) in
    inv.left clean h one
    (λ left can. some_of c.args.from h left (c.upgrade.ensures.crash first h held are left can)) db may
