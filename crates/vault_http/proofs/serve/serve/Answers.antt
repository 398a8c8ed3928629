use Rattle.std.proofs.Common.{[], refl}
use Rattle.std.proofs.lemmas.List.Elements.{All-nil}
use Rattle.vault_wire.specs.Messages.{IsMessage}
use Rattle.vault_engine.specs.Passing.{giving, passage, sending}
use Rattle.vault_engine.proofs.Answering.{appends_nothing}
use Rattle.vault_engine.proofs.Within.{all_nothing, stops_after}
use Rattle.vault_http.specs.Exchanges.{message_kind}
use Rattle.vault_http.proofs.Bytes.{consumes_nothing}
use Rattle.vault_http.proofs.Counting.{serves_part}
use Rattle.vault_http.proofs.serve.serve.Goals as goal

pub returns-in_default-clause-serves : goal.returns-in_default-clause-serves
returns-in_default-clause-serves g c =
    let w = sending g.W.Write.contents c.args.writer.now c.args.writer.now
    (giving g.S.Source.given c.args.source.now c.args.source.now
    (passage g.T.Tables c.args.vault.now c.args.vault.now)) in
    serves_part _ _ w _ (record {
      bytes = [];
      messages = [];
      read = consumes_nothing _;
      begins = record { rest = []; whole = refl; each = All-nil IsMessage };
      stops = stops_after message_kind w [] [] (all_nothing message_kind w refl (appends_nothing _)
          (λ V b. (b.1, g.met.T.Tables.settled _ V b.1.0 b.0)));
    })
