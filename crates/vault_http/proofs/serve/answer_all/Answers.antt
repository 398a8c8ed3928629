use Rattle.std.proofs.Common.{◌≡◌, ◌+◌, List, [], ◌∷◌, length, take, refl, sym, ap, ◌∙◌}
use Rattle.std.proofs.Common.{arith, false, cond, suc, drop, length-append}
use Rattle.std.specs.Prelude.{Bool}
use Rattle.std.proofs.lemmas.List.{length-take-le}
use Rattle.vault_core.specs.declared.reply.Reply.{Reply}
use Rattle.vault_wire.specs.Parts.{Parts, closes}
use Rattle.vault_engine.specs.Passing.{giving, passage, sending}
use Rattle.vault_engine.proofs.Answering.{appends_nothing}
use Rattle.vault_engine.proofs.Within.{all_nothing, all_one, all_then, stops_at_first, stops_then}
use Rattle.vault_http.specs.Exchanges.{message_kind, up_to_close}
use Rattle.vault_http.proofs.Closing.{none_more, one_further, up_to_close-at, up_to_close-end}
use Rattle.vault_http.proofs.Closing.{passed_all}
use Rattle.vault_http.proofs.Serving.{all_as, stops_as}
use Rattle.vault_http.proofs.Telling.{tells_as}
use Rattle.vault_http.proofs.serve.answer_all.Goals as goal

pub loop-message-init : goal.loop-message-init
loop-message-init g c =
    let w = sending g.W.Write.contents c.args.writer.now c.args.writer.now
    (giving g.S.Source.given c.args.source.now c.args.source.now
    (passage g.T.Tables c.args.vault.now c.args.vault.now)) in
    record {
      open_till = refl;
      answered = all_nothing message_kind w refl (appends_nothing _)
          (λ V b. (b.1, g.met.T.Tables.settled _ V b.1.0 b.0));
      counted = omega arith;
      later = g.met.S.Source.reflexive _;
      told = refl;
      honest = λ h. h;
    }

pub loop-message-preserved : goal.loop-message-preserved
loop-message-preserved g c =
    let inv = c.loop-message.invariant in
    let i = c.loop-message.message-index in
    let d : Parts = c.message-item.result in
    let one = one_further c.args.messages.now i d c.loop-message-test.true inv.open_till c.message-item.is in
    record {
      open_till = none_more c.args.messages.now i d c.loop-message-test.true inv.open_till c.message-item.is
          (sym c.closes.ensures ∙ c.if-closes.false);
      answered =
          all_as _ _ _ (sym one)
          (all_then message_kind [] _ _ _ (d ∷ []) inv.answered
          (all_one message_kind _ d _ c.in-Ok.ensures.answered)
          (record { given = refl; sent = refl; held = λ V h. h; back = c.ask.ensures.trusted.disk_honest }));
      counted = omega (arith, inv.counted, c.in-Ok.ensures.counted);
      later = g.met.S.Source.transitive _ _ _ inv.later c.ask.ensures.later;
      told = c.in-Ok.ensures.own_failure ∙ inv.told;
      honest = λ h. inv.honest (c.ask.ensures.trusted.disk_honest h);
    }

pub returns-then-closes-clause-ends : goal.returns-then-closes-clause-ends
returns-then-closes-clause-ends g c =
    let inv = c.loop-message.invariant in
    let d : Parts = c.message-item.result in
    let whole = up_to_close-end c.args.messages.now c.loop-message.message-index d c.loop-message-test.true
    inv.open_till c.message-item.is (sym c.closes.ensures ∙ c.if-closes.true) in
    all_as _ _ _ (sym whole)
    (all_then message_kind [] _ _ _ (d ∷ []) inv.answered
    (all_one message_kind _ d _ c.in-Ok.ensures.answered)
    (record { given = refl; sent = refl; held = λ V h. h; back = c.ask.ensures.trusted.disk_honest }))

pub returns-then-closes-clause-counted : goal.returns-then-closes-clause-counted
returns-then-closes-clause-counted g c =
    let inv = c.loop-message.invariant in
    let ps : List Parts = c.args.messages.now in
    let i = c.loop-message.message-index in
    let whole = up_to_close-end ps i c.message-item.result c.loop-message-test.true inv.open_till
    c.message-item.is (sym c.closes.ensures ∙ c.if-closes.true) in
    let many : length (up_to_close ps) ≡ i + 1 =
    ap length whole ∙ length-append (take i ps) (c.message-item.result ∷ [])
    ∙ ap (λ n. n + 1) (length-take-le i ps (omega (arith, c.loop-message-test.true))) in
    omega (arith, inv.counted, c.in-Ok.ensures.counted, many)

pub returns-in-Err-clause-ends : goal.returns-in-Err-clause-ends
returns-in-Err-clause-ends g c =
    let inv = c.loop-message.invariant in
    let ps : List Parts = c.args.messages.now in
    let i = c.loop-message.message-index in
    let d : Parts = c.message-item.result in
    let e = c.in-Err.fault in
    let at = up_to_close-at ps i d c.loop-message-test.true inv.open_till c.message-item.is in
    let more : List Parts = cond (closes d) [] (up_to_close (drop (suc i) ps)) in
    stops_as _ e _ _ (sym at)
    (stops_then message_kind [] _ _ (take i ps) (d ∷ more) inv.answered e
    (stops_at_first message_kind _ d more e c.in-Err.ensures.stopped)
    (record { given = refl; sent = refl; held = λ V h. h; back = c.ask.ensures.trusted.disk_honest }))

pub returns-clause-ends : goal.returns-clause-ends
returns-clause-ends g c =
    all_as _ _ _
    (passed_all c.args.messages.now c.loop-message.message-index
    (omega (arith, c.loop-message-test.false, c.loop-message.auto.message-index-end))
    c.loop-message.invariant.open_till).0 c.loop-message.invariant.answered

pub returns-clause-counted : goal.returns-clause-counted
returns-clause-counted g c =
    let inv = c.loop-message.invariant in
    let many =
    (passed_all c.args.messages.now c.loop-message.message-index
    (omega (arith, c.loop-message-test.false, c.loop-message.auto.message-index-end)) inv.open_till).1 in
    omega (arith, inv.counted, many)

pub returns-then-closes-clause-own_failure : goal.returns-then-closes-clause-own_failure
returns-then-closes-clause-own_failure g c = c.in-Ok.ensures.own_failure ∙ c.loop-message.invariant.told

pub returns-in-Err-clause-own_failure : goal.returns-in-Err-clause-own_failure
returns-in-Err-clause-own_failure g c =
    tells_as Reply Bool c.in-Err.fault _ _ _ c.loop-message.invariant.told c.in-Err.ensures.own_failure

pub returns-clause-own_failure : goal.returns-clause-own_failure
returns-clause-own_failure g c = c.loop-message.invariant.told
