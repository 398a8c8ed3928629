use Rattle.std.proofs.Common.{◌⊎◌, inl, inr, Ok, Err, subst}
use Rattle.std.specs.Prelude.{IsSomeAnd}
use Rattle.vault_engine.specs.Passing.{passage}
use Rattle.vault_merchants.specs.ListedMerchants.{AreListed}
use Rattle.vault_live.proofs.Attending.{attends_as, attends_then, untouched}
use Rattle.vault_live.specs.Following.{AreRowsIn, Asks}
use Rattle.vault_live.specs.Kinds.{merchants_changes, rights_changes}
use Rattle.vault_live.specs.Sweeping.{AsksPurges}
use Rattle.vault_live.specs.Turns.{Asking, Attends}
use Rattle.vault_live.proofs.lists.ListsOfficeOffice.attend.Goals as goal

pub returns-in-Nothing-clause-attends : goal.returns-in-Nothing-clause-attends
returns-in-Nothing-clause-attends g c =
    let tells = g.K.Timekeeper.tells c.args.time.now in
    let says = g.D.Desk.says in
    let lists = c.args.self.now in
    let early = passage g.T.Tables c.args.vault.now c.set.new.vault in
    let late = passage g.T.Tables c.set.new.vault c.rest.new.vault in
    let one : Asking = λ V cs. IsSomeAnd lists.shops (λ it. Asks AreListed merchants_changes
    (says it.list.desk.now it.list.path.now) tells V cs) in
    let other : Asking = λ V cs. IsSomeAnd lists.rights (λ it. Asks AreRowsIn rights_changes
    (says it.desk.now it.path.now) tells V cs)
    ⊎ IsSomeAnd lists.shops (λ it. AsksPurges it.began.now
    (says it.list.desk.now it.list.path.now) tells V cs) in
    let either : Asking = λ V cs. one V cs ⊎ other V cs in
    attends_then g.T.Tables.is_honest g.T.Tables.holds g.T.Tables.leaves c.args.vault.now c.set.new.vault
    c.rest.new.vault c.rest.ensures.disk_honest
    (untouched one early (subst (λ news. Attends one early (Ok news)) c.in-Nothing.is
    c.in-Ok.ensures.attends))
    either c.rest.result
    (attends_as other either late c.rest.result (λ V cs b asked. inr asked)
    c.rest.ensures.attends)

pub returns-in-Err-clause-attends : goal.returns-in-Err-clause-attends
returns-in-Err-clause-attends g c =
    let tells = g.K.Timekeeper.tells c.args.time.now in
    let says = g.D.Desk.says in
    let lists = c.args.self.now in
    let one : Asking = λ V cs. IsSomeAnd lists.shops (λ it. Asks AreListed merchants_changes
    (says it.list.desk.now it.list.path.now) tells V cs) in
    let either : Asking = λ V cs. one V cs ⊎ IsSomeAnd lists.rights (λ it. Asks AreRowsIn rights_changes
    (says it.desk.now it.path.now) tells V cs)
    ⊎ IsSomeAnd lists.shops (λ it. AsksPurges it.began.now
    (says it.list.desk.now it.list.path.now) tells V cs) in
    attends_as one either (passage g.T.Tables c.args.vault.now c.set.new.vault) (Err c.in-Err.fault)
    (λ V cs b asked. inl asked) c.in-Err.ensures.attends

pub returns-in_default-clause-attends : goal.returns-in_default-clause-attends
returns-in_default-clause-attends g c =
    let tells = g.K.Timekeeper.tells c.args.time.now in
    let says = g.D.Desk.says in
    let lists = c.args.self.now in
    let one : Asking = λ V cs. IsSomeAnd lists.shops (λ it. Asks AreListed merchants_changes
    (says it.list.desk.now it.list.path.now) tells V cs) in
    let either : Asking = λ V cs. one V cs ⊎ IsSomeAnd lists.rights (λ it. Asks AreRowsIn rights_changes
    (says it.desk.now it.path.now) tells V cs)
    ⊎ IsSomeAnd lists.shops (λ it. AsksPurges it.began.now
    (says it.list.desk.now it.list.path.now) tells V cs) in
    attends_as one either (passage g.T.Tables c.args.vault.now c.set.new.vault) (Ok c.in-Ok.news)
    (λ V cs b asked. inl asked) c.in-Ok.ensures.attends
