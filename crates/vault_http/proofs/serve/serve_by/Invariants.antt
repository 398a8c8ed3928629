use Rattle.std.proofs.Common.{◌≡◌, ℕ, ◌+◌, ◌*◌, ◌-◌, List, [], length, None, false}
use Rattle.std.specs.Io.KnownBytes.{Consumes}
use Rattle.vault_store.specs.Applied.{is_broken, tables_of}
use Rattle.vault_wire.specs.Messages.{Request}
use Rattle.vault_wire.specs.ReadingMessages.{IsReading}
use Rattle.vault_wire.specs.Watching.{is_stopped}
use Rattle.vault_http.specs.Exchanges.{has_close, message_kind, shown}
use Rattle.vault_http.specs.Faults.{failures}
use Rattle.vault_engine.specs.Passing.{giving, passage, sending}
use Rattle.vault_engine.specs.Within.{AllAnswered}
use Rattle.vault_http.proofs.serve.serve_by.Given as goal

abbrev pub invariant-pieces : goal.invariant-pieces
invariant-pieces g l = record {
  room : length l.piece ≡ 4096;
  calm : l.intake.fault ≡ None;
  bytes : List ℕ;
  messages : List Request;
  read : Consumes (g.R.Read.remaining l.initial.reader.inner) (g.R.Read.remaining l.reader.inner) bytes;
  reading : IsReading l.intake bytes messages;
  open_till : has_close (shown messages) ≡ false;
  answered : AllAnswered message_kind [] (sending g.W.Write.contents l.initial.writer l.writer
      (giving g.S.Source.given l.initial.source l.source (passage g.T.Tables l.initial.vault l.vault)))
      (shown messages);
  counted : g.S.Source.count_left l.initial.source ≡ g.S.Source.count_left l.source + length messages;
  later : g.S.Source.precedes l.initial.source l.source;
  told : failures (g.S.Source.has_refused l.source) (is_stopped l.reader) (is_stopped l.writer)
      (is_broken l.vault)
      ≡ failures (g.S.Source.has_refused l.initial.source) (is_stopped l.initial.reader)
      (is_stopped l.initial.writer)
      (is_broken l.initial.vault);
  honest : g.T.Tables.is_honest (tables_of l.vault) → g.T.Tables.is_honest (tables_of l.initial.vault);
}

abbrev pub decreases-pieces : goal.decreases-pieces
decreases-pieces g l = g.S.Source.count_left l.source * 12288 + (12288 - length l.intake.rest)
