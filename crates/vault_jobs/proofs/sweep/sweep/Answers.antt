use Rattle.std.proofs.Common.{◌≡◌, ◌≤◌, ◌∙◌, Err, ap, arith, length}
use Rattle.std.proofs.lemmas.Grind.{common_steps}
use Rattle.std.proofs.lemmas.Bool.Decides.{nat_tests}
use Rattle.vault_store.specs.Applied.{is_broken}
use Rattle.vault_changes.proofs.Purging.{purges_carried}
use Rattle.vault_changes.proofs.GivenRights.{unbroken}
use Rattle.vault_jobs.proofs.Sweeping.{all_swept, never_ends, none_yet, page_refused, page_stopped}
use Rattle.vault_jobs.proofs.Sweeping.{page_swept, unread}
use Rattle.vault_jobs.proofs.sweep.sweep.Goals as goal

pub loop-init : goal.loop-init
loop-init g c = (
  c.requires.unbroken,
  λ h. h,
  none_yet c.args.asker.now c.args.now g.T.Tables.is_honest g.T.Tables.holds g.T.Tables.leaves
      c.args.vault.now,
)

pub carry_all-requires-clause-carried : goal.carry_all-requires-clause-carried
carry_all-requires-clause-carried g c =
    purges_carried c.args.asker.now.caller c.args.asker.now.merchant c.args.now c.as_slice.result.now

pub returns-in-Err-clause-swept : goal.returns-in-Err-clause-swept
returns-in-Err-clause-swept g c =
    unread g.T.Tables.is_honest g.T.Tables.holds g.T.Tables.leaves c.args.asker.now c.args.now
    c.args.vault.now c.loop.vault c.dead.new.self c.loop.counter c.loop.count c.loop.invariant.2
    c.in-Err.ensures.disk_honest c.in-Err.fault c.loop.invariant.0 c.in-Err.ensures.fails.broken
    (λ is. c.in-Err.ensures.fails.reopen.0 (ap Err is)) (λ is. c.in-Err.ensures.memory (ap Err is))
    c.in-Err.ensures.crash

pub returns-then-is_empty-clause-swept : goal.returns-then-is_empty-clause-swept
returns-then-is_empty-clause-swept g c =
    let none : length c.in-Ok.tokens.items ≡ 0 =
    grind (arith, nat_tests, common_steps, c.is_empty.ensures, c.if-is_empty.true) in
    all_swept g.T.Tables.is_honest g.T.Tables.holds g.T.Tables.leaves c.args.asker.now c.args.now
    c.args.vault.now c.loop.vault c.dead.new.self c.loop.counter c.loop.count c.loop.invariant.2
    c.in-Ok.ensures.disk_honest c.in-Ok.tokens.items 1000 (omega arith) none
    c.in-Ok.ensures.told c.in-Ok.ensures.crash

pub returns-in-Ok-Err-clause-swept : goal.returns-in-Ok-Err-clause-swept
returns-in-Ok-Err-clause-swept g c =
    page_refused g.T.Tables.is_honest g.T.Tables.holds g.T.Tables.leaves c.args.asker.now c.args.now
    c.args.vault.now c.loop.vault c.dead.new.self c.carry_all.new.vault c.loop.counter c.loop.count
    c.as_slice.result.now 1000 c.loop.invariant.2
    c.in-Ok.ensures.disk_honest
    c.in-Ok-Err.ensures.disk_honest
    (λ h W held. let t = c.in-Ok.ensures.told h W held in (c.as_slice.ensures.value ∙ t.0, t.1))
    c.in-Ok-Err.number (rw c.in-Ok-Err.field-0-is at c.in-Ok-Err.ensures.carried)

pub returns-in-Err-carry_all-clause-swept : goal.returns-in-Err-carry_all-clause-swept
returns-in-Err-carry_all-clause-swept g c =
    page_stopped g.T.Tables.is_honest g.T.Tables.holds g.T.Tables.leaves c.args.asker.now c.args.now
    c.args.vault.now c.loop.vault c.dead.new.self c.carry_all.new.vault c.loop.counter c.loop.count
    c.as_slice.result.now 1000 c.loop.invariant.2
    c.in-Ok.ensures.disk_honest
    c.in-Err-carry_all.ensures.disk_honest
    (λ h W held. let t = c.in-Ok.ensures.told h W held in (c.as_slice.ensures.value ∙ t.0, t.1))
    c.in-Err-carry_all.fault c.in-Err-carry_all.ensures.carried

pub loop-preserved : goal.loop-preserved
loop-preserved g c =
    let page = c.as_slice.result.now in
    let some : 1 ≤ length page =
    grind (arith, nat_tests, common_steps, c.is_empty.ensures, c.if-is_empty.false, c.as_slice.ensures.len) in
    let size : c.len.result ≡ length page =
    grind (arith, common_steps, c.len.ensures, c.as_slice.ensures.len) in (
      unbroken (is_broken c.carry_all.new.vault) c.in-Ok-Ok.field-0 _ c.in-Ok-Ok.ensures.broken,
      λ h. c.loop.invariant.1 (c.in-Ok.ensures.disk_honest (c.in-Ok-Ok.ensures.disk_honest h)),
      page_swept g.T.Tables.is_honest g.T.Tables.holds g.T.Tables.leaves c.args.asker.now c.args.now
          c.args.vault.now c.loop.vault c.dead.new.self c.carry_all.new.vault c.loop.counter c.loop.count
          page 1000 c.loop.invariant.2 c.in-Ok.ensures.disk_honest
          c.in-Ok-Ok.ensures.disk_honest
          (λ h W held. let t = c.in-Ok.ensures.told h W held in (c.as_slice.ensures.value ∙ t.0, t.1))
          c.saturating_add-count.result
          (λ few. omega (arith, few, size, c.saturating_add-count.ensures)) some
          (rw c.in-Ok-Ok.field-0-is at c.in-Ok-Ok.ensures.carried),
    )

pub returns-clause-swept : goal.returns-clause-swept
returns-clause-swept g c =
    never_ends c.args.asker.now c.args.now g.T.Tables.is_honest g.T.Tables.holds g.T.Tables.leaves
    c.args.vault.now c.loop.vault c.loop.counter c.loop.count
    (omega (arith, c.loop-test.false, c.loop.auto.counter-end)) c.loop.invariant.2
