use Rattle.std.proofs.Common.{◌≡◌, ◌+◌, [], ◌∷◌, ◌++◌, length, refl, sym, ap, ◌∙◌, subst, append-nil, arith}
use Rattle.std.proofs.Common.{length-append}
use Rattle.std.specs.Prelude.{if◌then◌else◌}
use Rattle.csv.specs.Records.{fields_of}
use Rattle.vault_engine.specs.Asking.{reply_to, vault_after}
use Rattle.vault_engine.specs.Passing.{Passage, giving, passage, sending}
use Rattle.vault_engine.proofs.JoinedUnits.{Joins, answered_then, then_before}
use Rattle.vault_batch.specs.Asking.{Asked, rows_by}
use Rattle.vault_batch.specs.Batched.{rows_of, tokens}
use Rattle.vault_batch.specs.Lines.{first_line, has_token}
use Rattle.vault_batch.specs.ReadingRecords.{StandsAfter, StandsNext}
use Rattle.vault_batch.specs.Rows.{BeginRecordsOf, Fields, fields_in, records_with, row_of}
use Rattle.vault_batch.proofs.TokenCounts.{counts_one, first_answered, one_at_most, tokens-more, tokens-nil}
use Rattle.vault_batch.proofs.BatchStops.{beside_writer, records_more, stops_at_row}
use Rattle.vault_batch.proofs.BatchStops.{stops_between, stops_first}
use Rattle.vault_batch.proofs.ReaderProgress.{begins_given}
use Rattle.vault_batch.proofs.batch.answer_rows.Given.{Over}
use Rattle.vault_batch.proofs.batch.answer_rows.Goals.{In-Ok-true, After-ask}
use Rattle.vault_batch.proofs.batch.answer_rows.Goals as goal

pub returns-in-Err-clause-stopped : goal.returns-in-Err-clause-stopped
returns-in-Err-clause-stopped g c =
    let known = g.R.Read.remaining c.args.reader.now.inner in
    let w = sending g.W.Write.contents c.args.writer.now c.begin.new.writer
    (giving g.S.Source.given c.args.source.now c.args.source.now
    (passage g.T.Tables c.args.vault.now c.args.vault.now)) in
    stops_first (Unit {0}) known (λ r. g.R.Read.remaining r.now.inner) c.begin.new.records c.args.asker.now w
    c.in-Err.fault
    (sym (append-nil _), λ V b. (b.1, g.met.T.Tables.settled _ V b.1.0 b.0)) c.in-Err.ensures.sent
    (c.in-Err.ensures.began known c.records_of-records.ensures)

pub rows-init : goal.rows-init
rows-init g c =
    let known = g.R.Read.remaining c.args.reader.now.inner in
    let w = sending g.W.Write.contents c.args.writer.now c.begin.new.writer
    (giving g.S.Source.given c.args.source.now c.args.source.now
    (passage g.T.Tables c.args.vault.now c.args.vault.now)) in
    record {
      asked = [];
      stands = c.in_default.ensures.began known c.records_of-records.ensures;
      answered = first_answered c.args.asker.now w (sym (append-nil _)) c.in_default.ensures.sent
          (λ V b. (b.1, g.met.T.Tables.settled _ V b.1.0 b.0));
      few = omega arith;
      counted = λ V b. sym (tokens-nil V);
      pairs = omega arith;
      later = g.met.S.Source.reflexive _;
      told = beside_writer _ _ _ _ c.in_default.ensures.own_failure;
      honest = λ h. h;
    }

pub returns-in-Ok-false-clause-batched : goal.returns-in-Ok-false-clause-batched
returns-in-Ok-false-clause-batched g c =
    let inv = c.rows.invariant in
    let known = g.R.Read.remaining c.args.reader.now.inner in
    record {
      rows = inv.asked;
      records =
          subst (StandsNext known (λ r. g.R.Read.remaining r.now.inner) (records_with (rows_of inv.asked))
          (fields_of c.read_record.new.fields) c.read_record.new.records) c.in-Ok-false.field-0-test
          (c.in-Ok-false.ensures.next known _ inv.stands);
      answered = inv.answered;
      counted = record {
        rows = omega (arith, inv.pairs, c.left-pairs.ensures, c.left.ensures, c.new.ensures.rows);
        both = c.new.ensures.both;
        tokens = λ V b. c.new.ensures.tokens ∙ inv.counted V b;
      };
    }

pub returns-in-Err-read_record-clause-stopped : goal.returns-in-Err-read_record-clause-stopped
returns-in-Err-read_record-clause-stopped g c =
    let inv = c.rows.invariant in
    let known = g.R.Read.remaining c.args.reader.now.inner in
    let w = sending g.W.Write.contents c.args.writer.now c.rows.writer
    (giving g.S.Source.given c.args.source.now c.rows.source
    (passage g.T.Tables c.args.vault.now c.rows.vault)) in
    stops_between known c.args.asker.now w inv.asked c.in-Err-read_record.fault
    (begins_given known (λ r. g.R.Read.remaining r.now.inner) c.rows.records _ inv.stands.gave)
    inv.answered c.in-Err-read_record.ensures.only

-- the record that was read stands next
next_stands : (g : Over) (c : In-Ok-true g) → StandsAfter (g.R.Read.remaining c.args.reader.now.inner)
    (λ r. g.R.Read.remaining r.now.inner)
    (records_with (rows_of c.rows.invariant.asked) ++ fields_of c.read_record.new.fields ∷ [])
    c.read_record.new.records
next_stands g c =
    subst (StandsNext (g.R.Read.remaining c.args.reader.now.inner) (λ r. g.R.Read.remaining r.now.inner)
    (records_with (rows_of c.rows.invariant.asked)) (fields_of c.read_record.new.fields)
    c.read_record.new.records) c.in-Ok-true.field-0-test
    (c.in-Ok-true.ensures.next (g.R.Read.remaining c.args.reader.now.inner) _ c.rows.invariant.stands)

module _ (g : Over) (c : After-ask g) where
  -- the passage of the rows before this one, and that of this one
  abbrev early : Passage
  early = sending g.W.Write.contents c.args.writer.now c.rows.writer
      (giving g.S.Source.given c.args.source.now c.rows.source
      (passage g.T.Tables c.args.vault.now c.rows.vault))

  abbrev late : Passage
  late = sending g.W.Write.contents c.rows.writer c.ask.new.writer
      (giving g.S.Source.given c.rows.source c.ask.new.source
      (passage g.T.Tables c.rows.vault c.ask.new.vault))

  joins : Joins early late
  joins = record { given = refl; sent = refl; held = λ V h. h; back = c.ask.ensures.trusted.disk_honest }

pub returns-in_default-of-clause-stopped : goal.returns-in_default-of-clause-stopped
returns-in_default-of-clause-stopped g c =
    let inv = c.rows.invariant in
    let known = g.R.Read.remaining c.args.reader.now.inner in
    let next = next_stands g (goal.at.returns-in_default-of-clause-stopped g c).In-Ok-true in
    record {
      rows = inv.asked;
      bad = fields_of c.read_record.new.fields;
      records =
          begins_given known (λ r. g.R.Read.remaining r.now.inner) c.read_record.new.records _ next.gave;
      wrong = c.in_default-of.ensures.none;
      answered = inv.answered;
    }

pub rows-preserved : goal.rows-preserved
rows-preserved g c =
    let inv = c.rows.invariant in
    let known = g.R.Read.remaining c.args.reader.now.inner in
    let next = next_stands g (goal.at.rows-preserved g c).In-Ok-true in
    let one = c.in-Ok.ensures.answered in
    let x : Asked = one.0 in
    let it = (goal.at.rows-preserved g c).After-ask in
    let more : length (inv.asked ++ x ∷ []) ≡ length inv.asked + 1 = length-append inv.asked (x ∷ []) in
    record {
      asked = inv.asked ++ x ∷ [];
      stands =
          subst (λ rs. StandsAfter known (λ r. g.R.Read.remaining r.now.inner) rs c.read_record.new.records)
          (ap (λ (fs : Fields). records_with (rows_of inv.asked) ++ fs ∷ [])
          (c.in-Some.ensures.some ∙ ap fields_in (sym one.1)) ∙ sym (records_more inv.asked x)) next;
      answered =
          answered_then (rows_by c.args.asker.now) first_line (early g it) (late g it) inv.asked inv.answered
          (joins g it) (x ∷ []) one.2;
      few = omega (arith, inv.few, more, c.from-tokens.ensures, one_at_most c.has_token.result);
      counted = λ V b.
          let before : c.rows.tokens ≡ tokens V inv.asked =
          inv.counted V (c.ask.ensures.trusted.disk_honest b.0, b.1) in
          let all : tokens V (inv.asked ++ x ∷ [])
          ≡ c.rows.tokens + (if has_token (reply_to (vault_after V inv.asked) x.wanted) then 1 else 0) =
          tokens-more V inv.asked x
          ∙ ap (λ n. n + (if has_token (reply_to (vault_after V inv.asked) x.wanted) then 1 else 0))
          (sym before) in
          counts_one c.has_token.result _ c.rows.tokens _ c.from-tokens.result c.from-tokens.ensures
          (c.has_token.ensures ∙ ap has_token (one.3 (vault_after V inv.asked)
          (then_before (rows_by c.args.asker.now) first_line (early g it) (late g it) inv.asked inv.answered
          (joins g it) V b))) all;
      pairs = omega (arith, inv.pairs, c.in-Ok.ensures.counted, more);
      later = g.met.S.Source.transitive _ _ _ inv.later c.ask.ensures.later;
      told = c.in-Ok.ensures.own_failure ∙ inv.told;
      honest = λ h. inv.honest (c.ask.ensures.trusted.disk_honest h);
    }

pub returns-in-Err-ask-clause-stopped : goal.returns-in-Err-ask-clause-stopped
returns-in-Err-ask-clause-stopped g c =
    let inv = c.rows.invariant in
    let known = g.R.Read.remaining c.args.reader.now.inner in
    let next = next_stands g (goal.at.returns-in-Err-ask-clause-stopped g c).In-Ok-true in
    let it = (goal.at.returns-in-Err-ask-clause-stopped g c).After-ask in
    stops_at_row known c.args.asker.now (early g it) (late g it) inv.asked inv.answered (row_of c.in-Some.row)
    (joins g it)
    (begins_given known (λ r. g.R.Read.remaining r.now.inner) c.rows.records _ inv.stands.gave)
    (subst (λ (fs : Fields). BeginRecordsOf known (records_with (rows_of inv.asked) ++ fs ∷ []))
    c.in-Some.ensures.some
    (begins_given known (λ r. g.R.Read.remaining r.now.inner) c.read_record.new.records _ next.gave))
    c.in-Err-ask.stop _ c.from.ensures c.in-Err-ask.ensures.stopped
