use Rattle.std.proofs.Common.{◌≡◌, ◌++◌, List, Option, length}
use Rattle.std.specs.Prelude.{All}
use Rattle.vault_store.specs.Applied.{is_broken, tables_of}
use Rattle.vault_listen.specs.Peers.{AreLinks, Event, Link, events_of}
use Rattle.vault_listen.specs.Service.{GoesOn}
use Rattle.vault_listen.proofs.service.serve_on.Given as goal

abbrev pub invariant-loop : goal.invariant-loop
invariant-loop g l = record {
  links : List (Option Link);
  count : length links ≡ l.counter;
  told : (log : List Event) → g.P.Peers.tells l.initial.peers log
      → g.P.Peers.tells l.peers (log ++ events_of links);
  served : AreLinks (g.K.Timekeeper.tells l.time) g.T.Tables
      links l.initial.vault l.vault;
  on : All GoesOn links;
  whole : is_broken l.vault ≡ is_broken l.initial.vault;
  honest : g.T.Tables.is_honest (tables_of l.vault) → g.T.Tables.is_honest (tables_of l.initial.vault);
}
