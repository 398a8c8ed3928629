use Rattle.std.proofs.Common.{List, subst, sym}
use Rattle.std.specs.Prelude.{IfSome, IsSomeAnd}
use Rattle.vault_core.specs.Vault.{Vault as Content}
use Rattle.vault_core.specs.declared.command.Command.{Command}
use Rattle.vault_engine.specs.Passing.{passage}
use Rattle.vault_merchants.specs.ListedMerchants.{AreListed}
use Rattle.vault_live.proofs.Attending.{attends_as}
use Rattle.vault_live.proofs.Remembering.{sweeper_in}
use Rattle.vault_live.specs.Following.{Looks, Remembers, taken_of}
use Rattle.vault_live.specs.Sweeping.{AsksFirst, AsksPurges}
use Rattle.vault_live.proofs.lists.ListsOffice.purge.Goals as goal

pub returns-clause-attends : goal.returns-clause-attends
returns-clause-attends g c =
    let shops = c.in-Some.shops in
    let says : Looks = g.D.Desk.says shops.list.desk.now shops.list.path.now in
    let tells = g.K.Timekeeper.tells c.args.time.now in
    let kept = c.args.kept.now.merchants in
    let it = c.in-Some-next_sweeper.sweeper.1 in
    let now = c.in-Some-moment.now in
    let remembers : Remembers AreListed says kept =
    subst (λ o. IfSome o (λ s. Remembers AreListed (g.D.Desk.says s.list.desk.now s.list.path.now) kept))
    c.in-Some.is c.requires.remembers.merchants in
    let asked : (V : Content) (cs : List Command) → AsksFirst it now V cs
    → AsksPurges shops.began.now says tells V cs = λ V cs are. record {
      sweeper = it;
      named = sweeper_in says kept.look shops.began.now (taken_of kept.list) kept.rows it remembers.taken
          remembers.rows c.in-Some-next_sweeper.ensures;
      now = now;
      told = c.questions-questions.ensures.same 0 now
          (subst (λ n. g.K.Questions.Questions.tells c.questions-questions.result n now)
          c.questions-questions.ensures.fresh c.in-Some-moment.ensures.tells);
      are = are;
    } in
    attends_as (AsksFirst it now) (λ V cs. IsSomeAnd c.args.self.now.shops (λ s.
    AsksPurges s.began.now (g.D.Desk.says s.list.desk.now s.list.path.now) tells V cs))
    (passage g.T.Tables c.args.vault.now c.sweep.new.vault) c.sweep.result
    (λ V cs b are. subst (λ o. IsSomeAnd o (λ s.
    AsksPurges s.began.now (g.D.Desk.says s.list.desk.now s.list.path.now) tells V cs))
    (sym c.in-Some.is) (asked V cs are))
    c.sweep.ensures.attends
