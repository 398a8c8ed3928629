use Rattle.std.proofs.Common.{◌≡◌, ◌+◌, ◌-◌, ◌<◌, [], ◌++◌, length, take, refl, sym, ap, ◌∙◌}
use Rattle.std.proofs.Common.{arith, true, false, None, Some, length-append}
use Rattle.std.proofs.lemmas.List.{length-map, length-take}
use Rattle.std.specs.Prelude.{Bool, Ok, Err}
use Rattle.vault_store.specs.Applied.{is_broken}
use Rattle.vault_wire.specs.Parts.{parts_of}
use Rattle.vault_wire.specs.ReadingMessages.{Kept}
use Rattle.vault_wire.specs.Watching.{is_stopped}
use Rattle.vault_engine.specs.Passing.{giving, passage, sending}
use Rattle.vault_engine.proofs.Answering.{appends_nothing}
use Rattle.vault_engine.proofs.Within.{all_nothing, all_then, stops_after, stops_then}
use Rattle.vault_http.specs.Faults.{Failures, failures}
use Rattle.vault_http.specs.Exchanges.{message_kind, shown, up_to_close}
use Rattle.vault_http.specs.declared.served.Served.{Served}
use Rattle.vault_http.proofs.Bytes.{consumes_both, consumes_keeps, consumes_none, consumes_nothing}
use Rattle.vault_http.proofs.Counting.{serves_all, serves_part}
use Rattle.vault_http.proofs.Closing.{up_to_close-none}
use Rattle.vault_http.proofs.Fed.{fed_of, fed_open}
use Rattle.vault_http.proofs.Serving.{begins_more, begins_of, falls, reads_by, served_fault, served_plain}
use Rattle.vault_http.proofs.Serving.{all_as, stopped_fault, stopped_of, stops_as}
use Rattle.vault_http.proofs.Telling.{after_read, beside_reader, beside_writer, not_read, tells_as}
use Rattle.vault_http.proofs.serve.serve_by.Goals as goal

pub pieces-init : goal.pieces-init
pieces-init g c =
    let w = sending g.W.Write.contents c.args.writer.now c.args.writer.now
    (giving g.S.Source.given c.args.source.now c.args.source.now
    (passage g.T.Tables c.args.vault.now c.args.vault.now)) in
    record {
      room = refl;
      calm = ap (λ (k : Kept). k.fault) c.new-intake.ensures.fresh;
      bytes = [];
      messages = [];
      read = consumes_nothing _;
      reading = c.new-intake.ensures.reading;
      open_till = refl;
      answered = all_nothing message_kind w refl (appends_nothing _)
          (λ V b. (b.1, g.met.T.Tables.settled _ V b.1.0 b.0));
      counted = omega arith;
      later = g.met.S.Source.reflexive _;
      told = refl;
      honest = λ h. h;
    }

pub returns-in_default-clause-serves : goal.returns-in_default-clause-serves
returns-in_default-clause-serves g c =
    let inv = c.pieces.invariant in
    serves_part _ _ _ _ (record {
      bytes = inv.bytes;
      messages = inv.messages;
      read = consumes_keeps _ _ _ inv.bytes inv.read c.in_default.ensures.bytes;
      reads = reads_by c.pieces.intake inv.bytes inv.messages None inv.calm inv.reading;
      stops = all_as _ _ _
          (sym (up_to_close-none (shown inv.messages) inv.open_till)) inv.answered;
    })

pub returns-then-count-eq0-clause-serves : goal.returns-then-count-eq0-clause-serves
returns-then-count-eq0-clause-serves g c =
    let inv = c.pieces.invariant in
    let r = c.in-Ok.ensures.bytes in
    let room : 0 < length c.next_piece.new.piece = omega (arith, c.next_piece.auto.piece, inv.room) in
    let none = up_to_close-none (shown inv.messages) inv.open_till in
    let many : length (up_to_close (shown inv.messages)) ≡ length inv.messages =
    ap length none ∙ length-map inv.messages parts_of in
    serves_all _ _ _ _ (served_plain _ _ _ inv.bytes inv.messages
    (consumes_none _ _ _ inv.bytes c.next_piece.new.piece c.in-Ok.count inv.read c.if-count-eq0.true r.0) None
    (record { messages = c.left-pairs.result - c.left.result; fault = None })
    (reads_by c.pieces.intake inv.bytes inv.messages None inv.calm inv.reading)
    (all_as _ _ _ (sym none) inv.answered)
    (omega (arith, inv.counted, c.left-pairs.ensures, c.left.ensures, many)) refl (rw inv.open_till refl)
    (λ open_till no_fault. r.1 c.if-count-eq0.true room))

pub returns-in_default-feed-clause-serves : goal.returns-in_default-feed-clause-serves
returns-in_default-feed-clause-serves g c =
    let inv = c.pieces.invariant in
    let piece = take c.in-Ok.count c.next_piece.new.piece in
    let reads = reads_by c.pieces.intake inv.bytes inv.messages None inv.calm inv.reading in
    serves_part _ _ _ _ (record {
      bytes = inv.bytes ++ piece;
      messages = inv.messages;
      read = consumes_both _ _ _ inv.bytes piece inv.read c.in-Ok.ensures.bytes.0;
      begins = begins_more inv.bytes piece inv.messages (begins_of inv.bytes inv.messages None reads);
      stops = stops_after message_kind _ [] _ (all_as _ _ _
          (sym (up_to_close-none (shown inv.messages) inv.open_till)) inv.answered);
    })

pub returns-in-Ok-true-clause-serves : goal.returns-in-Ok-true-clause-serves
returns-in-Ok-true-clause-serves g c =
    let inv = c.pieces.invariant in
    let more = fed_of _ _ _ _ _ inv.bytes _ inv.messages c.deref.result.now _ inv.read
    c.in-Ok.ensures.bytes.0 inv.reading c.deref.ensures.value inv.open_till c.in-Ok-feed.ensures.reads in
    let all = all_as _ _ _ (sym more.whole)
    (all_then message_kind [] _ _ _ (up_to_close c.deref.result.now) inv.answered c.in-Ok-true.ensures.ends
    (record { given = refl; sent = refl; held = λ V h. h; back = c.answer_all.ensures.trusted.disk_honest }))
    in
    let closed = more.closing ∙ sym c.in-Ok-true.ensures.closes ∙ c.in-Ok-true.field-0-test in
    serves_all _ _ _ _ (served_plain _ _ _ _ _ more.read c.feed.new.self.fault
    (record { messages = c.left-pairs.result - c.left-in-Ok-true.result; fault = None })
    (reads_by c.feed.new.self _ _ c.feed.new.self.fault refl more.reading) all
    (omega (
      arith,
      inv.counted,
      c.in-Ok-true.ensures.counted,
      c.left-pairs.ensures,
      c.left-in-Ok-true.ensures,
      more.many,
    ))
    refl (rw closed refl) (λ open_till _. absurd (cc)))

pub returns-in-Err-clause-serves : goal.returns-in-Err-clause-serves
returns-in-Err-clause-serves g c =
    let inv = c.pieces.invariant in
    let more = fed_of _ _ _ _ _ inv.bytes _ inv.messages c.deref.result.now _ inv.read
    c.in-Ok.ensures.bytes.0 inv.reading c.deref.ensures.value inv.open_till c.in-Ok-feed.ensures.reads in
    let e = c.in-Err.fault in
    let stops = stops_as _ e _ _ (sym more.whole)
    (stops_then message_kind [] _ _ _ (up_to_close c.deref.result.now) inv.answered e c.in-Err.ensures.ends
    (record { given = refl; sent = refl; held = λ V h. h; back = c.answer_all.ensures.trusted.disk_honest }))
    in
    serves_part _ _ _ _ (stopped_of _ _ _ _ _ more.read e c.feed.new.self.fault
    (not_read e _ _ _ _ _ _ c.in-Err.ensures.own_failure)
    (reads_by c.feed.new.self _ _ c.feed.new.self.fault refl more.reading) stops)

pub returns-in-Err-refuse-clause-serves : goal.returns-in-Err-refuse-clause-serves
returns-in-Err-refuse-clause-serves g c =
    let inv = c.pieces.invariant in
    let more = fed_open (fed_of _ _ _ _ _ inv.bytes _ inv.messages c.deref.result.now _ inv.read
    c.in-Ok.ensures.bytes.0 inv.reading c.deref.ensures.value inv.open_till c.in-Ok-feed.ensures.reads)
    inv.answered (sym c.in-Ok-false.ensures.closes ∙ c.in-Ok-false.field-0-test) c.in-Ok-false.ensures.ends
    (record { given = refl; sent = refl; held = λ V h. h; back = c.answer_all.ensures.trusted.disk_honest })
    in
    serves_part _ _ _ _ (stopped_fault _ _ _ _ _ _ c.in-Some.fault more.read
    (reads_by _ _ _ _ (sym c.in-Ok-feed.ensures.fault ∙ c.in-Some.is) more.reading) more.open_till
    more.answered
    c.in-Err-refuse.stop c.in-Err-refuse.ensures.ends)

pub returns-in-Some-clause-serves : goal.returns-in-Some-clause-serves
returns-in-Some-clause-serves g c =
    let inv = c.pieces.invariant in
    let more = fed_open (fed_of _ _ _ _ _ inv.bytes _ inv.messages c.deref.result.now _ inv.read
    c.in-Ok.ensures.bytes.0 inv.reading c.deref.ensures.value inv.open_till c.in-Ok-feed.ensures.reads)
    inv.answered (sym c.in-Ok-false.ensures.closes ∙ c.in-Ok-false.field-0-test) c.in-Ok-false.ensures.ends
    (record { given = refl; sent = refl; held = λ V h. h; back = c.answer_all.ensures.trusted.disk_honest })
    in
    let many = length-append inv.messages c.in-Ok-feed.ensures.reads.0 in
    serves_all _ _ _ _ (served_fault _ _ _ _ _ _ c.in-Some.fault more.read
    (reads_by _ _ _ _ (sym c.in-Ok-feed.ensures.fault ∙ c.in-Some.is) more.reading) more.open_till
    more.answered
    (record { messages = c.left-pairs.result - c.left-in-Some.result; fault = Some c.in-Some.fault })
    (omega (
      arith,
      inv.counted,
      c.in-Ok-false.ensures.counted,
      c.left-pairs.ensures,
      c.left-in-Some.ensures,
      more.count,
      many,
    ))
    refl c.in_default-refuse.ensures.ends)

pub pieces-smaller : goal.pieces-smaller
pieces-smaller g c =
    let inv = c.pieces.invariant in
    let piece = take c.in-Ok.count c.next_piece.new.piece in
    let fed = fed_of _ _ _ _ _ inv.bytes piece inv.messages c.deref.result.now _ inv.read
    c.in-Ok.ensures.bytes.0 inv.reading c.deref.ensures.value inv.open_till c.in-Ok-feed.ensures.reads in
    let none = fed.closing ∙ sym c.in-Ok-false.ensures.closes ∙ c.in-Ok-false.field-0-test in
    let room : 0 < length c.next_piece.new.piece = omega (arith, c.next_piece.auto.piece, inv.room) in
    let taken = length-take c.in-Ok.count c.next_piece.new.piece in
    let some : 0 < length piece = omega (arith, c.if-count-eq0.false, room, taken) in
    falls c.in-Ok-feed.ensures.reads.0 c.pieces.intake c.feed.new.self inv.bytes piece inv.messages
    (g.S.Source.count_left c.pieces.source) (g.S.Source.count_left c.answer_all.new.source)
    inv.calm (sym c.in-Ok-feed.ensures.fault ∙ c.in_default-fault.is) inv.reading fed.reading some
    (c.in-Ok-false.ensures.counted
    ∙ ap (λ n. g.S.Source.count_left c.answer_all.new.source + n) (fed.count none))

pub pieces-preserved : goal.pieces-preserved
pieces-preserved g c =
    let inv = c.pieces.invariant in
    let more = fed_open (fed_of _ _ _ _ _ inv.bytes _ inv.messages c.deref.result.now _ inv.read
    c.in-Ok.ensures.bytes.0 inv.reading c.deref.ensures.value inv.open_till c.in-Ok-feed.ensures.reads)
    inv.answered (sym c.in-Ok-false.ensures.closes ∙ c.in-Ok-false.field-0-test) c.in-Ok-false.ensures.ends
    (record { given = refl; sent = refl; held = λ V h. h; back = c.answer_all.ensures.trusted.disk_honest })
    in
    let went = after_read _ _ _ _ _ _ (c.in-Ok.ensures.flag ∙ sym c.in-Ok.ensures.ok) inv.told in
    record {
      room = c.next_piece.auto.piece ∙ inv.room;
      calm = sym c.in-Ok-feed.ensures.fault ∙ c.in_default-fault.is;
      bytes = _;
      messages = _;
      read = more.read;
      reading = more.reading;
      open_till = more.open_till;
      answered = more.answered;
      counted = omega (
        arith,
        inv.counted,
        c.in-Ok-false.ensures.counted,
        more.count,
        length-append inv.messages c.in-Ok-feed.ensures.reads.0,
      );
      later = g.met.S.Source.transitive _ _ _ inv.later c.answer_all.ensures.later;
      told =
          beside_reader Bool (Ok false) (is_stopped c.next_piece.new.reader) _ _ _ _ _ _
          c.in-Ok-false.ensures.own_failure
          ∙ went;
      honest = λ h. inv.honest (c.answer_all.ensures.trusted.disk_honest h);
    }

pub returns-in_default-clause-own_failure : goal.returns-in_default-clause-own_failure
returns-in_default-clause-own_failure g c =
    ap (λ b. failures (g.S.Source.has_refused c.pieces.source) b (is_stopped c.pieces.writer)
    (is_broken c.pieces.vault))
    c.in_default.ensures.flag
    ∙ ap (λ (f : Failures). record f { reader = true }) c.pieces.invariant.told

pub returns-then-count-eq0-clause-own_failure : goal.returns-then-count-eq0-clause-own_failure
returns-then-count-eq0-clause-own_failure g c =
    let went =
    after_read _ _ _ _ _ _ (c.in-Ok.ensures.flag ∙ sym c.in-Ok.ensures.ok) c.pieces.invariant.told in
    went

pub returns-in_default-feed-clause-own_failure : goal.returns-in_default-feed-clause-own_failure
returns-in_default-feed-clause-own_failure g c =
    let went =
    after_read _ _ _ _ _ _ (c.in-Ok.ensures.flag ∙ sym c.in-Ok.ensures.ok) c.pieces.invariant.told in
    went

pub returns-in-Ok-true-clause-own_failure : goal.returns-in-Ok-true-clause-own_failure
returns-in-Ok-true-clause-own_failure g c =
    let went =
    after_read _ _ _ _ _ _ (c.in-Ok.ensures.flag ∙ sym c.in-Ok.ensures.ok) c.pieces.invariant.told in
    beside_reader Bool (Ok true) (is_stopped c.next_piece.new.reader) _ _ _ _ _ _
    c.in-Ok-true.ensures.own_failure
    ∙ went

pub returns-in-Err-clause-own_failure : goal.returns-in-Err-clause-own_failure
returns-in-Err-clause-own_failure g c =
    let went =
    after_read _ _ _ _ _ _ (c.in-Ok.ensures.flag ∙ sym c.in-Ok.ensures.ok) c.pieces.invariant.told in
    tells_as Bool Served c.in-Err.fault _ _ _ went
    (beside_reader Bool (Err c.in-Err.fault) (is_stopped c.next_piece.new.reader) _ _ _ _ _ _
    c.in-Err.ensures.own_failure)

pub returns-in-Err-refuse-clause-own_failure : goal.returns-in-Err-refuse-clause-own_failure
returns-in-Err-refuse-clause-own_failure g c =
    let went =
    after_read _ _ _ _ _ _ (c.in-Ok.ensures.flag ∙ sym c.in-Ok.ensures.ok) c.pieces.invariant.told in
    let all =
    beside_reader Bool (Ok false) (is_stopped c.next_piece.new.reader) _ _ _ _ _ _
    c.in-Ok-false.ensures.own_failure
    ∙ went in
    tells_as (Unit {0}) Served c.in-Err-refuse.stop _ _ _ all
    (beside_writer c.in-Err-refuse.stop (g.S.Source.has_refused c.answer_all.new.source)
    (is_stopped c.next_piece.new.reader)
    (is_broken c.answer_all.new.vault) _ _ c.in-Err-refuse.ensures.own_failure)

pub returns-in-Some-clause-own_failure : goal.returns-in-Some-clause-own_failure
returns-in-Some-clause-own_failure g c =
    let went =
    after_read _ _ _ _ _ _ (c.in-Ok.ensures.flag ∙ sym c.in-Ok.ensures.ok) c.pieces.invariant.told in
    let all =
    beside_reader Bool (Ok false) (is_stopped c.next_piece.new.reader) _ _ _ _ _ _
    c.in-Ok-false.ensures.own_failure
    ∙ went in
    ap (λ (f : Failures). failures (g.S.Source.has_refused c.answer_all.new.source)
    (is_stopped c.next_piece.new.reader) f.writer
    (is_broken c.answer_all.new.vault)) c.in_default-refuse.ensures.own_failure ∙ all
