use Rattle.std.proofs.Common.{◌≡◌, ◌+◌, ◌++◌, List, false}
use Rattle.vault_engine.specs.Passing.{passage}
use Rattle.vault_store.specs.Applied.{is_broken, tables_of}
use Rattle.vault_listen.specs.Peers.{Event}
use Rattle.vault_live.specs.Turns.{AllKept, AreSaid, Turn, came, events_in}
use Rattle.vault_live.proofs.turns.serve_turns.Given as goal

abbrev pub invariant-loop : goal.invariant-loop
invariant-loop g l = record {
  turns : List Turn;
  count : came turns + l.left ≡ l.connections;
  told : (log : List Event) → g.P.Peers.tells l.initial.peers log
      → g.P.Peers.tells l.peers (log ++ events_in turns);
  said : AreSaid (g.W.Write.contents l.initial.output.inner) (g.W.Write.contents l.output.inner) turns;
  kept : AllKept (g.K.Timekeeper.tells l.time) (g.O.Office.asks l.office (g.K.Timekeeper.tells l.time)) turns
      (passage g.T.Tables l.initial.vault l.vault);
  quiet : g.O.Office.acts l.office ≡ false → l.output ≡ l.initial.output;
  whole : is_broken l.vault ≡ false;
  own : g.O.Office.remembers l.office l.kept;
  honest : g.T.Tables.is_honest (tables_of l.vault) → g.T.Tables.is_honest (tables_of l.initial.vault);
}
