use Rattle.std.proofs.Common.{subst}
use Rattle.vault_engine.specs.Passing.{passage}
use Rattle.vault_live.proofs.Attending.{attend_refused, attend_unfinished, attend_unread, attends_as}
use Rattle.vault_store.specs.Applied.{tables_of}
use Rattle.vault_live.specs.Carrying.{AsksAt}
use Rattle.vault_live.specs.Following.{Asks}
use Rattle.vault_live.proofs.following.FollowingOffice.attend.Goals as goal

pub returns-clause-attends : goal.returns-clause-attends
returns-clause-attends g c =
    let names = g.L.Kind.names in
    let wants = g.L.Kind.wants in
    let says = g.D.Desk.says c.args.self.now.desk.now c.args.self.now.path.now in
    let tells = g.K.Timekeeper.tells c.args.time.now in
    let now = c.in-Some.now in
    attends_as (AsksAt names wants says now) (λ V cs. Asks names wants says tells V cs)
    (passage g.T.Tables c.args.vault.now c.carry.new.vault) c.carry.result
    (λ V cs b it. record {
      rows = it.0;
      settled = it.1;
      now = now;
      told = c.questions-questions.ensures.same 0 now
          (subst (λ n. g.K.Questions.Questions.tells c.questions-questions.result n now)
          c.questions-questions.ensures.fresh c.in-Some.ensures.tells);
      are = it.2.0;
      proper = it.2.1;
    })
    c.carry.ensures.attends

pub returns-in-Faulty-clause-attends : goal.returns-in-Faulty-clause-attends
returns-in-Faulty-clause-attends g c =
    let says = g.D.Desk.says c.args.self.now.desk.now c.args.self.now.path.now in
    let tells = g.K.Timekeeper.tells c.args.time.now in
    attend_refused (λ V cs. Asks g.L.Kind.names g.L.Kind.wants says tells V cs)
    (passage g.T.Tables c.args.vault.now c.args.vault.now)
    c.subject-in-Faulty.result c.in-Faulty.number c.in-Some.now
    (λ V b. (b.1, g.met.T.Tables.settled (tables_of c.args.vault.now) V b.1.0 b.0))

pub returns-in-Unread-clause-attends : goal.returns-in-Unread-clause-attends
returns-in-Unread-clause-attends g c =
    let says = g.D.Desk.says c.args.self.now.desk.now c.args.self.now.path.now in
    let tells = g.K.Timekeeper.tells c.args.time.now in
    attend_unread (λ V cs. Asks g.L.Kind.names g.L.Kind.wants says tells V cs)
    (passage g.T.Tables c.args.vault.now c.args.vault.now) c.subject.result c.in-Some.now
    (λ V b. (b.1, g.met.T.Tables.settled (tables_of c.args.vault.now) V b.1.0 b.0))

pub returns-in-Unfinished-clause-attends : goal.returns-in-Unfinished-clause-attends
returns-in-Unfinished-clause-attends g c =
    let says = g.D.Desk.says c.args.self.now.desk.now c.args.self.now.path.now in
    let tells = g.K.Timekeeper.tells c.args.time.now in
    attend_unfinished (λ V cs. Asks g.L.Kind.names g.L.Kind.wants says tells V cs)
    (passage g.T.Tables c.args.vault.now c.args.vault.now) c.subject-in-Unfinished.result c.in-Some.now
    (λ V b. (b.1, g.met.T.Tables.settled (tables_of c.args.vault.now) V b.1.0 b.0))
