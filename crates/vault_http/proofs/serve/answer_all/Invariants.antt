use Rattle.std.proofs.Common.{◌≡◌, ◌+◌, [], take, false}
use Rattle.vault_store.specs.Applied.{is_broken, tables_of}
use Rattle.vault_wire.specs.Watching.{is_stopped}
use Rattle.vault_http.specs.Exchanges.{has_close, message_kind}
use Rattle.vault_http.specs.Faults.{failures}
use Rattle.vault_engine.specs.Passing.{giving, passage, sending}
use Rattle.vault_engine.specs.Within.{AllAnswered}
use Rattle.vault_http.proofs.serve.answer_all.Given as goal

abbrev pub invariant-loop-message : goal.invariant-loop-message
invariant-loop-message g l = record {
  open_till : has_close (take l.message-index l.messages) ≡ false;
  answered : AllAnswered message_kind [] (sending g.W.Write.contents l.initial.writer l.writer
      (giving g.S.Source.given l.initial.source l.source (passage g.T.Tables l.initial.vault l.vault)))
      (take l.message-index l.messages);
  counted : g.S.Source.count_left l.initial.source ≡ g.S.Source.count_left l.source + l.message-index;
  later : g.S.Source.precedes l.initial.source l.source;
  told : failures (g.S.Source.has_refused l.source) false (is_stopped l.writer) (is_broken l.vault)
      ≡ failures (g.S.Source.has_refused l.initial.source) false (is_stopped l.initial.writer)
      (is_broken l.initial.vault);
  honest : g.T.Tables.is_honest (tables_of l.vault) → g.T.Tables.is_honest (tables_of l.initial.vault);
}
