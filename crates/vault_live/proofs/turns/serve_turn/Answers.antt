use Rattle.std.proofs.Common.{◌++◌, arith, List, [], ◌∷◌, Ok, Err, refl, rules}
use Rattle.vault_core.specs.declared.command.Command.{Command}
use Rattle.vault_engine.specs.Passing.{passage, vault_passing}
use Rattle.vault_live.specs.Turns.{AllKept, Turn}
use Rattle.vault_live.specs.Turns.Turn.{Attended}
use Rattle.vault_live.proofs.Turning.{attend_err, attend_ok, said_first, told_both, told_links, told_quiet}
use Rattle.vault_live.proofs.Turning.{turn_leaves, turn_then, turns_of}
use Rattle.vault_live.proofs.turns.serve_turn.Given.{Over}
use Rattle.vault_live.proofs.turns.serve_turn.Goals.{After-say}
use Rattle.vault_live.proofs.turns.serve_turn.Goals as goal

pub returns-in-Err-clause-turned : goal.returns-in-Err-clause-turned
returns-in-Err-clause-turned g c =
    let at = g.K.Timekeeper.tells c.args.time.now in
    let asks = g.O.Office.asks c.args.office.now at in
    let w = passage g.T.Tables c.args.vault.now c.attend.new.vault in
    let it = attend_err at asks w c.in-Err.fault c.in-Err.ensures.attends
    (g.W.Write.contents c.args.output.now.inner) in
    (it.0, it.1, told_quiet (g.P.Peers.tells c.args.peers.now) it.0 it.2, it.3)

module _ (g : Over) (c : After-say g) where
  -- the turn in which the office was asked
  attended : (cs : List Command) × AllKept (g.K.Timekeeper.tells c.args.time.now)
      (g.O.Office.asks c.args.office.now (g.K.Timekeeper.tells c.args.time.now))
      (Attended cs c.in-Ok.news ∷ [])
      (passage g.T.Tables c.args.vault.now c.attend.new.vault)
  attended =
      attend_ok (g.K.Timekeeper.tells c.args.time.now)
      (g.O.Office.asks c.args.office.now (g.K.Timekeeper.tells c.args.time.now))
      (passage g.T.Tables c.args.vault.now c.attend.new.vault) c.in-Ok.news (search (rules, c.well_formed))
      c.in-Ok.ensures.attends

  first : Turn
  first = Attended attended.0 c.in-Ok.news

pub returns-then-has_jumped-clause-turned : goal.returns-then-has_jumped-clause-turned
returns-then-has_jumped-clause-turned g c =
    let it = (goal.at.returns-then-has_jumped-clause-turned g c).After-say in
    let turn = attended g it in (
      Attended turn.0 c.in-Ok.news ∷ [],
      (omega arith, turn.1),
      told_quiet (g.P.Peers.tells c.args.peers.now) (Attended turn.0 c.in-Ok.news ∷ []) refl,
      said_first turn.0 c.in-Ok.news [] _ _ c.say.new.output.stopped c.say.ensures.said,
    )

pub returns-clause-turned : goal.returns-clause-turned
returns-clause-turned g c =
    let it = (goal.at.returns-clause-turned g c).After-say in
    let turn = attended g it in (
      Attended turn.0 c.in-Ok.news ∷ [],
      (refl, omega arith, turn.1),
      told_quiet (g.P.Peers.tells c.args.peers.now) (Attended turn.0 c.in-Ok.news ∷ []) refl,
      said_first turn.0 c.in-Ok.news [] _ _ c.say.new.output.stopped c.say.ensures.said,
    )

pub returns-in-Ok-serve_on-clause-turned : goal.returns-in-Ok-serve_on-clause-turned
returns-in-Ok-serve_on-clause-turned g c =
    let it = (goal.at.returns-in-Ok-serve_on-clause-turned g c).After-say in
    let at = g.K.Timekeeper.tells c.args.time.now in
    let asks = g.O.Office.asks c.args.office.now at in
    let honest = g.T.Tables.is_honest in
    let holds = g.T.Tables.holds in
    let leaves = g.T.Tables.leaves in
    let tells = g.P.Peers.tells in
    let v0 = c.args.vault.now in
    let v1 = c.attend.new.vault in
    let v2 = c.serve_on.new.vault in
    let turn = attended g it in
    let ts : List Turn = Attended turn.0 c.in-Ok.news ∷ [] in
    let served = c.in-Ok-serve_on.ensures.served in
    let us : List Turn = turns_of served.0 in
    let more = turn_leaves at asks served.0 (vault_passing honest holds leaves v1 v2) (Ok tt) served.1 in (
      ts ++ us,
      turn_then at asks honest holds leaves g.met.T.Tables.settled ts us v0 v1 v2 (Ok 1)
          c.in-Ok-serve_on.ensures.disk_honest refl turn.1 more,
      told_both (tells c.args.peers.now) (tells c.args.peers.now) (tells c.serve_on.new.peers) ts us
          (told_quiet (tells c.args.peers.now) ts refl)
          (told_links (tells c.args.peers.now) (tells c.serve_on.new.peers) served.0 served.3),
      said_first turn.0 c.in-Ok.news served.0 _ _ c.say.new.output.stopped c.say.ensures.said,
    )

pub returns-in-Err-serve_on-clause-turned : goal.returns-in-Err-serve_on-clause-turned
returns-in-Err-serve_on-clause-turned g c =
    let it = (goal.at.returns-in-Err-serve_on-clause-turned g c).After-say in
    let at = g.K.Timekeeper.tells c.args.time.now in
    let asks = g.O.Office.asks c.args.office.now at in
    let honest = g.T.Tables.is_honest in
    let holds = g.T.Tables.holds in
    let leaves = g.T.Tables.leaves in
    let tells = g.P.Peers.tells in
    let v0 = c.args.vault.now in
    let v1 = c.attend.new.vault in
    let v2 = c.serve_on.new.vault in
    let f = c.in-Err-serve_on.fault in
    let turn = attended g it in
    let ts : List Turn = Attended turn.0 c.in-Ok.news ∷ [] in
    let served = c.in-Err-serve_on.ensures.served in
    let us : List Turn = turns_of served.0 in
    let more = turn_leaves at asks served.0 (vault_passing honest holds leaves v1 v2) (Err f) served.1 in (
      ts ++ us,
      turn_then at asks honest holds leaves g.met.T.Tables.settled ts us v0 v1 v2 (Err f)
          c.in-Err-serve_on.ensures.disk_honest refl turn.1 more,
      told_both (tells c.args.peers.now) (tells c.args.peers.now) (tells c.serve_on.new.peers) ts us
          (told_quiet (tells c.args.peers.now) ts refl)
          (told_links (tells c.args.peers.now) (tells c.serve_on.new.peers) served.0 served.3),
      said_first turn.0 c.in-Ok.news served.0 _ _ c.say.new.output.stopped c.say.ensures.said,
    )

pub returns-then-has_jumped-clause-quiet : goal.returns-then-has_jumped-clause-quiet
returns-then-has_jumped-clause-quiet g c = λ off. c.say.ensures.quiet (cc (c.in-Ok.ensures.calm off))

pub returns-clause-quiet : goal.returns-clause-quiet
returns-clause-quiet g c = λ off. c.say.ensures.quiet (cc (c.in-Ok.ensures.calm off))

pub returns-in-Ok-serve_on-clause-quiet : goal.returns-in-Ok-serve_on-clause-quiet
returns-in-Ok-serve_on-clause-quiet g c = λ off. c.say.ensures.quiet (cc (c.in-Ok.ensures.calm off))

pub returns-in-Err-serve_on-clause-quiet : goal.returns-in-Err-serve_on-clause-quiet
returns-in-Err-serve_on-clause-quiet g c = λ off. c.say.ensures.quiet (cc (c.in-Ok.ensures.calm off))
