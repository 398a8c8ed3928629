use Rattle.std.proofs.Common.{◌∙◌, List, ap, rules, subst, sym}
use Rattle.vault_core.specs.Keys.{Bytes}
use Rattle.vault_core.specs.Name.{IsName}
use Rattle.vault_core.specs.Proper.{AllProper}
use Rattle.vault_core.specs.Scalar.{IsMoment}
use Rattle.vault_core.specs.declared.command.Command.{Command}
use Rattle.vault_changes.proofs.Purging.{purges_carried}
use Rattle.vault_changes.specs.Purges.{purges_of}
use Rattle.vault_engine.specs.Passing.{passage}
use Rattle.vault_live.proofs.Attending.{attend_failed, attend_none, attend_unswept, attend_waits}
use Rattle.vault_live.proofs.Attending.{attends_first, ok_as}
use Rattle.vault_live.proofs.ProperPurges.{purges_proper}
use Rattle.vault_live.proofs.Unaccepted.{purges_refused}
use Rattle.vault_live.specs.Sweeping.{AsksFirst}
use Rattle.vault_live.proofs.sweeping.sweep_first.Goals as goal

pub returns-in-Ok-Nothing-clause-attends : goal.returns-in-Ok-Nothing-clause-attends
returns-in-Ok-Nothing-clause-attends g c =
    attend_none (AsksFirst c.args.sweeper c.args.now) (passage g.T.Tables c.args.vault.now
    c.purges_due.new.vault)
    (λ V b. (c.in-Ok-Nothing.ensures.due V b).1)

pub returns-in-Ok-Ahead-clause-attends : goal.returns-in-Ok-Ahead-clause-attends
returns-in-Ok-Ahead-clause-attends g c =
    attend_unswept (AsksFirst c.args.sweeper c.args.now) (passage g.T.Tables c.args.vault.now
    c.purges_due.new.vault) c.args.sweeper.merchant
    c.number-number.result c.args.now (λ V b. (c.in-Ok-Ahead.ensures.due V b).1)

pub returns-in-Ok-Behind-clause-attends : goal.returns-in-Ok-Behind-clause-attends
returns-in-Ok-Behind-clause-attends g c =
    attend_waits (AsksFirst c.args.sweeper c.args.now) (passage g.T.Tables c.args.vault.now
    c.purges_due.new.vault) c.args.sweeper.merchant c.args.now
    (rw c.in-Ok-Behind.field-0-is at c.in-Ok-Behind.ensures.due)

pub returns-in-Err-Memory-clause-attends : goal.returns-in-Err-Memory-clause-attends
returns-in-Err-Memory-clause-attends g c =
    attend_none (AsksFirst c.args.sweeper c.args.now) (passage g.T.Tables c.args.vault.now
    c.purges_due.new.vault)
    (rw c.in-Err-Memory.field-0-is at c.in-Err-Memory.ensures.failed)

pub returns-in-Err-Store-clause-attends : goal.returns-in-Err-Store-clause-attends
returns-in-Err-Store-clause-attends g c =
    attend_failed (AsksFirst c.args.sweeper c.args.now) (passage g.T.Tables c.args.vault.now
    c.purges_due.new.vault)
    (rw c.in-Err-Store.field-0-is at c.in-Err-Store.ensures.failed)

pub carry_first-carried-requires-clause-carried : goal.carry_first-carried-requires-clause-carried
carry_first-carried-requires-clause-carried g c =
    purges_carried c.args.sweeper.caller c.args.sweeper.merchant c.args.now c.as_slice.result.now

pub returns-clause-attends : goal.returns-clause-attends
returns-clause-attends g c =
    let it = c.args.sweeper in
    let now = c.args.now in
    let tokens = c.as_slice.result.now in
    let moment : IsMoment now = search (rules, c.well_formed) in
    let caller : IsName it.caller = search (rules, c.well_formed) in
    let merchant : IsName it.merchant = search (rules, c.well_formed) in
    let due = rw c.in-Ok-Purges.field-0-is at c.in-Ok-Purges.ensures.due in
    let purges : List Bytes → List Command = λ ts. purges_of it.caller it.merchant now ts in
    attends_first g.T.Tables.is_honest g.T.Tables.holds g.T.Tables.leaves c.args.vault.now
    c.purges_due.new.vault c.carry_first-carried.new.vault c.carry_first-carried.ensures.disk_honest
    (λ V b. (due V b).1) (AsksFirst it now) (purges tokens) c.carry_first-carried.result.done
    (λ V b. let are = ap purges (c.as_slice.ensures.value ∙ (due V b).0.1) in (
      (due V b).0.0,
      are,
      subst AllProper (sym are) (purges_proper it now V caller merchant moment b.1.1),
    ))
    (λ V b. purges_refused it.caller it.merchant now tokens)
    c.carry_first-carried.result.end c.purged.result c.carry_first-carried.ensures.ends
    (ok_as c.purged.result _ _
    (λ x said V done. said V it.caller tokens c.carry_first-carried.ensures.few done)
    c.purged.ensures.said)
    c.purged.ensures.store c.purged.ensures.fault
