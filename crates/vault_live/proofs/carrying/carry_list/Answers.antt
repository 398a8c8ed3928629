use Rattle.std.proofs.Common.{◌∙◌, All, ap, inr, subst, sym}
use Rattle.vault_live.proofs.Attending.{attend_failed, attend_none, attend_refused, attends_first}
use Rattle.vault_live.proofs.Attending.{settled_first}
use Rattle.std.proofs.lemmas.List.{map-id}
use Rattle.vault_live.specs.Carrying.{AsksRows}
use Rattle.vault_live.specs.First.{Ends}
use Rattle.vault_core.specs.Proper.{AllProper}
use Rattle.vault_engine.specs.Passing.{passage}
use Rattle.vault_live.specs.Kinds.{KeepsRefused}
use Rattle.vault_live.specs.declared.news.News.TheVariants.{Refused}
use Rattle.vault_live.proofs.carrying.carry_list.Goals as goal

pub returns-in-Ok-Err-clause-attends : goal.returns-in-Ok-Err-clause-attends
returns-in-Ok-Err-clause-attends g c =
    attend_refused (AsksRows g.L.Kind.wants c.args.now c.args.rows.now)
    (passage g.T.Tables c.args.vault.now c.changes.new.vault) c.subject.result c.in-Ok-Err.number c.args.now
    (λ V b. (c.in-Ok-Err.ensures.found V b).1)

pub returns-in-Ok-Err-clause-settled : goal.returns-in-Ok-Err-clause-settled
returns-in-Ok-Err-clause-settled g c = λ none V b.
    inr (
      (
        c.in-Ok-Err.number,
        c.args.now,
        ap (λ about. Refused about c.in-Ok-Err.number c.args.now)
            c.subject.ensures,
      ),
      (c.in-Ok-Err.ensures.found V b).1,
    )

pub returns-in-Err-Memory-clause-attends : goal.returns-in-Err-Memory-clause-attends
returns-in-Err-Memory-clause-attends g c =
    attend_none (AsksRows g.L.Kind.wants c.args.now c.args.rows.now)
    (passage g.T.Tables c.args.vault.now c.changes.new.vault)
    (rw c.in-Err-Memory.field-0-is at c.in-Err-Memory.ensures.failed)

pub returns-in-Err-Store-clause-attends : goal.returns-in-Err-Store-clause-attends
returns-in-Err-Store-clause-attends g c =
    attend_failed (AsksRows g.L.Kind.wants c.args.now c.args.rows.now)
    (passage g.T.Tables c.args.vault.now c.changes.new.vault)
    (rw c.in-Err-Store.field-0-is at c.in-Err-Store.ensures.failed)

pub returns-clause-attends : goal.returns-clause-attends
returns-clause-attends g c =
    attends_first g.T.Tables.is_honest g.T.Tables.holds g.T.Tables.leaves c.args.vault.now
    c.changes.new.vault c.carry_first-carried.new.vault c.carry_first-carried.ensures.disk_honest
    (λ V b. (c.in-Ok-Ok.ensures.found V b).1) (AsksRows g.L.Kind.wants c.args.now c.args.rows.now)
    c.as_slice-commands.result.now c.carry_first-carried.result.done
    (λ V b. (
      c.as_slice-commands.ensures.value ∙ ((rw c.in-Ok-Ok.field-0-is at c.in-Ok-Ok.ensures.found) V b).0.0,
      subst AllProper (sym c.as_slice-commands.ensures.value)
          ((rw c.in-Ok-Ok.field-0-is at c.in-Ok-Ok.ensures.steps) V b).proper,
    ))
    (λ V b. subst (All KeepsRefused) (sym c.as_slice-commands.ensures.value)
    ((rw c.in-Ok-Ok.field-0-is at c.in-Ok-Ok.ensures.steps) V b).keeps)
    c.carry_first-carried.result.end c.outcome.result
    (subst (λ ds. Ends c.carry_first-carried.result.end c.carry_first-carried.result.done ds
    (passage g.T.Tables c.changes.new.vault c.carry_first-carried.new.vault))
    (map-id c.as_slice-commands.result.now)
    c.carry_first-carried.ensures.ends)
    c.outcome.ensures.said c.outcome.ensures.store c.outcome.ensures.fault

pub returns-clause-settled : goal.returns-clause-settled
returns-clause-settled g c =
    settled_first g.T.Tables.is_honest g.T.Tables.holds g.T.Tables.leaves c.args.vault.now
    c.changes.new.vault c.carry_first-carried.new.vault c.carry_first-carried.ensures.disk_honest
    (λ V b. (c.in-Ok-Ok.ensures.found V b).1) (λ V cs. Unit {0})
    c.as_slice-commands.result.now c.carry_first-carried.result.done
    (λ V b. tt)
    (λ V b. subst (All KeepsRefused) (sym c.as_slice-commands.ensures.value)
    ((rw c.in-Ok-Ok.field-0-is at c.in-Ok-Ok.ensures.steps) V b).keeps)
    g.L.Kind.about g.L.Kind.wants c.args.now c.args.rows.now
    (λ V b. c.as_slice-commands.ensures.value
    ∙ ((rw c.in-Ok-Ok.field-0-is at c.in-Ok-Ok.ensures.found) V b).0.0)
    c.carry_first-carried.result.end c.outcome.result
    (subst (λ ds. Ends c.carry_first-carried.result.end c.carry_first-carried.result.done ds
    (passage g.T.Tables c.changes.new.vault c.carry_first-carried.new.vault))
    (map-id c.as_slice-commands.result.now)
    c.carry_first-carried.ensures.ends)
    c.outcome.ensures.left c.outcome.ensures.refused
