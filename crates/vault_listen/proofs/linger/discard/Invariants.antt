use Rattle.std.proofs.Common.{ℕ, ◌≤◌, List, length, ◌≡◌, ◌*◌}
use Rattle.std.specs.Io.KnownBytes.{Consumes}
use Rattle.vault_listen.proofs.linger.discard.Given as goal

abbrev pub invariant-loop : goal.invariant-loop
invariant-loop g l = record {
  room : length l.piece ≡ 4096;
  bytes : List ℕ;
  short : length bytes ≤ l.counter * 4096;
  read : Consumes (g.R.Read.remaining l.initial.reader) (g.R.Read.remaining l.reader) bytes;
}
