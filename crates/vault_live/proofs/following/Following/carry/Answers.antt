use Rattle.std.proofs.Common.{Ok, Err, subst, sym}
use Rattle.vault_engine.specs.Passing.{Passage, passage}
use Rattle.vault_live.proofs.Attending.{attends_at}
use Rattle.vault_live.proofs.Remembering.{taken_settled}
use Rattle.vault_live.specs.Following.{AreSettled, HaveTaken, Looks, taken_of}
use Rattle.vault_live.proofs.following.Following.carry.Given.{Over}
use Rattle.vault_live.proofs.following.Following.carry.Goals.{After-carry_list}
use Rattle.vault_live.proofs.following.Following.carry.Goals as goal

module _ (g : Over) (c : After-carry_list g) where
  abbrev says : Looks
  says = g.D.Desk.says c.args.self.now.desk.now c.args.self.now.path.now

  -- the rows that were kept are those of a text that was settled
  settled : AreSettled g.L.Kind.names says c.as_slice.result.now
  settled =
      subst (AreSettled g.L.Kind.names says) (sym c.as_slice.ensures.value)
      (taken_settled g.L.Kind.names says c.args.kept.now.look (taken_of c.args.kept.now.list) c.in-Some.rows
      c.requires.remembers.taken
      (subst (HaveTaken g.L.Kind.names (taken_of c.args.kept.now.list)) c.in-Some.is
      c.requires.remembers.rows))

  abbrev w : Passage
  w = passage g.T.Tables c.args.vault.now c.carry_list.new.vault

pub returns-in-Ok-default-true-clause-attends : goal.returns-in-Ok-default-true-clause-attends
returns-in-Ok-default-true-clause-attends g c =
    let it = (goal.at.returns-in-Ok-default-true-clause-attends g c).After-carry_list in
    attends_at g.L.Kind.names g.L.Kind.wants (says g it) c.args.now c.as_slice.result.now (w g it)
    (Ok c.in-Ok-default-true.news) (settled g it) c.in-Ok-default-true.ensures.attends

pub returns-in-Ok-default-false-clause-attends : goal.returns-in-Ok-default-false-clause-attends
returns-in-Ok-default-false-clause-attends g c =
    let it = (goal.at.returns-in-Ok-default-false-clause-attends g c).After-carry_list in
    attends_at g.L.Kind.names g.L.Kind.wants (says g it) c.args.now c.as_slice.result.now (w g it)
    (Ok c.in-Ok-default-false.news) (settled g it) c.in-Ok-default-false.ensures.attends

pub returns-in-Err-clause-attends : goal.returns-in-Err-clause-attends
returns-in-Err-clause-attends g c =
    let it = (goal.at.returns-in-Err-clause-attends g c).After-carry_list in
    attends_at g.L.Kind.names g.L.Kind.wants (says g it) c.args.now c.as_slice.result.now (w g it)
    (Err c.in-Err.fault) (settled g it) c.in-Err.ensures.attends
