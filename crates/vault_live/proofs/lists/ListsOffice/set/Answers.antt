use Rattle.std.proofs.Common.{Ok, Err, subst, sym}
use Rattle.std.specs.Prelude.{IsSomeAnd}
use Rattle.vault_engine.specs.Passing.{passage}
use Rattle.vault_merchants.specs.ListedMerchants.{AreListed}
use Rattle.vault_live.proofs.Attending.{attends_as}
use Rattle.vault_live.specs.Following.{Asks}
use Rattle.vault_live.specs.Kinds.{merchants_changes}
use Rattle.vault_live.specs.Turns.{Asking}
use Rattle.vault_live.proofs.lists.ListsOffice.set.Goals as goal

pub returns-in-Err-clause-attends : goal.returns-in-Err-clause-attends
returns-in-Err-clause-attends g c =
    let tells = g.K.Timekeeper.tells c.args.time.now in
    let says = g.D.Desk.says in
    let it = c.in-Some.shops in
    let one : Asking = λ V cs. Asks AreListed merchants_changes (says it.list.desk.now it.list.path.now) tells V cs in
    let any : Asking = λ V cs. IsSomeAnd c.args.self.now.shops (λ it. Asks AreListed merchants_changes
    (says it.list.desk.now it.list.path.now) tells V cs) in
    attends_as one any (passage g.T.Tables c.args.vault.now c.attend.new.vault) (Err c.in-Err.fault)
    (λ V cs b asked. subst (λ o. IsSomeAnd o (λ it. Asks AreListed merchants_changes
    (says it.list.desk.now it.list.path.now) tells V cs)) (sym c.in-Some.is) asked) c.in-Err.ensures.attends

pub returns-then-not-matches-clause-attends : goal.returns-then-not-matches-clause-attends
returns-then-not-matches-clause-attends g c =
    let tells = g.K.Timekeeper.tells c.args.time.now in
    let says = g.D.Desk.says in
    let it = c.in-Some.shops in
    let one : Asking = λ V cs. Asks AreListed merchants_changes (says it.list.desk.now it.list.path.now) tells V cs in
    let any : Asking = λ V cs. IsSomeAnd c.args.self.now.shops (λ it. Asks AreListed merchants_changes
    (says it.list.desk.now it.list.path.now) tells V cs) in
    attends_as one any (passage g.T.Tables c.args.vault.now c.attend.new.vault) (Ok c.in-Ok.news)
    (λ V cs b asked. subst (λ o. IsSomeAnd o (λ it. Asks AreListed merchants_changes
    (says it.list.desk.now it.list.path.now) tells V cs)) (sym c.in-Some.is) asked) c.in-Ok.ensures.attends

pub returns-clause-attends : goal.returns-clause-attends
returns-clause-attends g c =
    let tells = g.K.Timekeeper.tells c.args.time.now in
    let says = g.D.Desk.says in
    let it = c.in-Some.shops in
    let one : Asking = λ V cs. Asks AreListed merchants_changes (says it.list.desk.now it.list.path.now) tells V cs in
    let any : Asking = λ V cs. IsSomeAnd c.args.self.now.shops (λ it. Asks AreListed merchants_changes
    (says it.list.desk.now it.list.path.now) tells V cs) in
    attends_as one any (passage g.T.Tables c.args.vault.now c.attend.new.vault) (Ok c.in-Ok.news)
    (λ V cs b asked. subst (λ o. IsSomeAnd o (λ it. Asks AreListed merchants_changes
    (says it.list.desk.now it.list.path.now) tells V cs)) (sym c.in-Some.is) asked) c.in-Ok.ensures.attends
