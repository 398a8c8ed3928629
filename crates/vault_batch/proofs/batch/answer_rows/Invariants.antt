use Rattle.std.proofs.Common.{◌≡◌, ◌+◌, ◌≤◌, List, length, false}
use Rattle.vault_core.specs.Vault.{Vault as Content}
use Rattle.vault_store.specs.Applied.{is_broken, tables_of}
use Rattle.vault_wire.specs.Watching.{is_stopped}
use Rattle.vault_engine.specs.Passing.{IsBefore, giving, passage, sending}
use Rattle.vault_engine.specs.Stops.{failures}
use Rattle.vault_batch.specs.Asking.{Asked}
use Rattle.vault_batch.specs.Batched.{Answered, rows_of, tokens}
use Rattle.vault_batch.specs.Lines.{first_line}
use Rattle.vault_batch.specs.ReadingRecords.{StandsAfter}
use Rattle.vault_batch.specs.Rows.{records_with}
use Rattle.vault_batch.proofs.batch.answer_rows.Given as goal

abbrev pub invariant-rows : goal.invariant-rows
invariant-rows g l =
    let w = sending g.W.Write.contents l.fn.writer l.writer (giving g.S.Source.given l.initial.source l.source
    (passage g.T.Tables l.initial.vault l.vault)) in
    record {
      asked : List Asked;
      stands : StandsAfter (g.R.Read.remaining l.fn.reader.inner) (λ r. g.R.Read.remaining r.now.inner)
          (records_with (rows_of asked)) l.records;
      answered : Answered l.asker first_line w asked;
      few : l.tokens ≤ length asked;
      counted : (V : Content) → IsBefore w V → l.tokens ≡ tokens V asked;
      pairs : g.S.Source.count_left l.initial.source ≡ g.S.Source.count_left l.source + length asked;
      later : g.S.Source.precedes l.initial.source l.source;
      told : failures (g.S.Source.has_refused l.source) false (is_stopped l.writer) (is_broken l.vault)
          ≡ failures (g.S.Source.has_refused l.initial.source) false (is_stopped l.fn.writer)
          (is_broken l.initial.vault);
      honest : g.T.Tables.is_honest (tables_of l.vault) → g.T.Tables.is_honest (tables_of l.initial.vault);
    }

abbrev pub decreases-rows : goal.decreases-rows
decreases-rows g l = g.S.Source.count_left l.source
