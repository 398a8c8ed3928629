use Rattle.std.proofs.Common.{◌++◌, ◌∙◌, arith, [], List, refl}
use Rattle.vault_changes.proofs.GivenRights.{unbroken}
use Rattle.vault_store.specs.Applied.{is_broken}
use Rattle.vault_live.specs.Turns.{Turn}
use Rattle.vault_live.proofs.Turning.{came_both, kept_none, kept_then, leaves_then, said_both, told_both}
use Rattle.vault_live.proofs.Turning.{told_none}
use Rattle.vault_live.proofs.turns.serve_turns.Goals as goal

pub loop-init : goal.loop-init
loop-init g c = record {
  turns = [];
  count = omega arith;
  told = told_none (g.P.Peers.tells c.args.peers.now);
  said = refl;
  kept = kept_none (g.K.Timekeeper.tells c.args.time.now)
      (g.O.Office.asks c.args.office.now (g.K.Timekeeper.tells c.args.time.now)) g.T.Tables.is_honest
      g.T.Tables.holds g.T.Tables.leaves g.met.T.Tables.settled c.args.vault.now;
  quiet = λ off. refl;
  whole = c.requires.unbroken;
  own = c.requires.remembers;
  honest = λ h. h;
}

pub returns-in_default-clause-served : goal.returns-in_default-clause-served
returns-in_default-clause-served g c =
    let kept = kept_none (g.K.Timekeeper.tells c.args.time.now)
    (g.O.Office.asks c.args.office.now (g.K.Timekeeper.tells c.args.time.now)) g.T.Tables.is_honest
    g.T.Tables.holds g.T.Tables.leaves g.met.T.Tables.settled c.args.vault.now in
    ([], (omega arith, (refl, kept)), told_none (g.P.Peers.tells c.args.peers.now), refl)

pub returns-in-Err-clause-served : goal.returns-in-Err-clause-served
returns-in-Err-clause-served g c =
    let inv = c.loop.invariant in
    let at = g.K.Timekeeper.tells c.args.time.now in
    let asks = g.O.Office.asks c.args.office.now at in
    let tells = g.P.Peers.tells in
    let contents = g.W.Write.contents in
    let it = c.in-Err.ensures.turned in (
      inv.turns ++ it.0,
      leaves_then at asks g.T.Tables.is_honest g.T.Tables.holds g.T.Tables.leaves g.met.T.Tables.settled
          inv.turns it.0 c.args.vault.now c.loop.vault c.serve_turn.new.vault c.args.connections c.loop.left
          c.in-Err.fault c.in-Err.ensures.disk_honest inv.count (omega (arith, c.if-left-eq0.false)) inv.kept
          it.1,
      told_both (tells c.args.peers.now) (tells c.loop.peers) (tells c.serve_turn.new.peers) inv.turns it.0
          inv.told it.2,
      said_both inv.turns it.0 (contents c.args.output.now.inner) (contents c.loop.output.inner)
          (contents c.serve_turn.new.output.inner) inv.said it.3,
    )

pub loop-preserved : goal.loop-preserved
loop-preserved g c =
    let inv = c.loop.invariant in
    let at = g.K.Timekeeper.tells c.args.time.now in
    let asks = g.O.Office.asks c.args.office.now at in
    let tells = g.P.Peers.tells in
    let contents = g.W.Write.contents in
    let it = c.in-Ok-serve_turn.ensures.turned in
    let ts : List Turn = inv.turns ++ it.0 in
    record {
      turns = ts;
      count = omega (arith, came_both inv.turns it.0, inv.count, it.1.0, it.1.1, c.if-left-eq0.false);
      told = told_both (tells c.args.peers.now) (tells c.loop.peers) (tells c.serve_turn.new.peers) inv.turns
          it.0 inv.told it.2;
      said = said_both inv.turns it.0 (contents c.args.output.now.inner) (contents c.loop.output.inner)
          (contents c.serve_turn.new.output.inner) inv.said it.3;
      kept = kept_then at asks g.T.Tables.is_honest g.T.Tables.holds g.T.Tables.leaves g.met.T.Tables.settled
          inv.turns it.0 c.args.vault.now c.loop.vault c.serve_turn.new.vault
          c.in-Ok-serve_turn.ensures.disk_honest inv.kept it.1.2;
      quiet = λ off. c.in-Ok-serve_turn.ensures.quiet off ∙ inv.quiet off;
      whole = unbroken (is_broken c.serve_turn.new.vault) c.in-Ok-serve_turn.came _
          c.in-Ok-serve_turn.ensures.broken;
      own = c.in-Ok-serve_turn.ensures.remembers;
      honest = λ h. inv.honest (c.in-Ok-serve_turn.ensures.disk_honest h);
    }

pub returns-in-Err-clause-quiet : goal.returns-in-Err-clause-quiet
returns-in-Err-clause-quiet g c = λ off. c.in-Err.ensures.quiet off ∙ c.loop.invariant.quiet off
