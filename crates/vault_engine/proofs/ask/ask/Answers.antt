use Rattle.std.proofs.Common.{◌<◌, List, ℕ, length, take, refl, ap, ◌∙◌, subst, sym, Err, inl, inr}
use Rattle.std.specs.Io.KnownBytes.{Appends}
use Rattle.vault_wire.specs.Watching.{inner_of}
use Rattle.vault_engine.specs.Asking.{kind}
use Rattle.vault_engine.specs.Passing.{giving, passage, sending}
use Rattle.vault_engine.specs.Stops.{StopsAt}
use Rattle.vault_engine.proofs.Answering.{appends_nothing, asked, none_answered, none_decided, one_answered}
use Rattle.vault_engine.proofs.Answering.{one_cut, one_silent, one_undecided, text_is, when_err, when_ok}
use Rattle.vault_engine.proofs.ask.ask.Goals as goal

pub returns-in_default-clause-stopped : goal.returns-in_default-clause-stopped
returns-in_default-clause-stopped g c =
    let w = sending g.W.Write.contents c.args.writer.now c.args.writer.now
    (giving g.S.Source.given c.args.source.now c.next.new.self
    (passage g.T.Tables c.args.vault.now c.args.vault.now)) in
    none_answered _ w c.in_default.ensures.keeps (appends_nothing _)
    (λ V b. (b.1, g.met.T.Tables.settled _ V b.1.0 b.0))

pub returns-in-Err-clause-stopped : goal.returns-in-Err-clause-stopped
returns-in-Err-clause-stopped g c =
    let d = c.in-Err.ensures in
    let w = sending g.W.Write.contents c.args.writer.now c.args.writer.now
    (giving g.S.Source.given c.args.source.now c.next.new.self
    (passage g.T.Tables c.args.vault.now c.decide.new.vault)) in
    let k = kind (g.U.Unit.wants c.args.unit.now) g.U.Unit.text in
    elim d.only [
      | inl same ↦ subst (StopsAt k w (g.U.Unit.shown c.args.unit.now)) (sym same)
          (inl (none_decided k w (c.in-Ok.pair.0, c.in-Ok.pair.1) c.in-Ok.ensures.gives (appends_nothing _)
          (λ V b. let now = d.memory (ap Err same) V b.1 in (now, g.met.T.Tables.settled _ V now.0 b.0))))
      | inr same ↦
          let stop = d.store (ap Err same) in
          let x = asked (g.U.Unit.shown c.args.unit.now) (c.in-Ok.pair.0, c.in-Ok.pair.1) stop.wanted in
          subst (StopsAt k w (g.U.Unit.shown c.args.unit.now)) (sym same) (
            x,
            refl,
            one_undecided k w x stop.asks c.in-Ok.ensures.gives (appends_nothing _)
                (λ V b. stop.told b.0 V b.1),
          )
    ]

pub returns-in_default-text-clause-stopped : goal.returns-in_default-text-clause-stopped
returns-in_default-text-clause-stopped g c =
    let d = c.in-Ok-decide.ensures.ok in
    let x = asked (g.U.Unit.shown c.args.unit.now) (c.in-Ok.pair.0, c.in-Ok.pair.1) d.wanted in
    inr (
      x,
      refl,
      one_silent _ _ x d.asks c.in-Ok.ensures.gives (appends_nothing _)
          (λ V b. let now = (d.told b.0 V b.1).1 in (now, g.met.T.Tables.settled _ _ now.0 b.0)),
    )

pub returns-then-is_err-clause-stopped : goal.returns-then-is_err-clause-stopped
returns-then-is_err-clause-stopped g c =
    let d = c.in-Ok-decide.ensures.ok in
    let sent = when_err c.send.result _ (sym c.is_err.ensures.value ∙ c.if-is_err.true) c.send.ensures.err in
    let k = kind (g.U.Unit.wants c.args.unit.now) g.U.Unit.text in
    let x = asked (g.U.Unit.shown c.args.unit.now) (c.in-Ok.pair.0, c.in-Ok.pair.1) d.wanted in (
      x,
      refl,
      one_cut k _ x d.asks c.in-Ok.ensures.gives sent.0
          (λ V b.
          let now = d.told b.0 V b.1 in
          let text = c.deref.ensures.value
          ∙ text_is k V x _ _ (c.in-Ok-text.ensures d.wanted d.stands) now.0 in (
            subst (λ (t : List ℕ). sent.0 < length t) text sent.1,
            subst (λ (t : List ℕ). Appends (g.W.Write.contents (inner_of c.args.writer.now))
                (g.W.Write.contents (inner_of c.send.new.writer)) (take sent.0 t)) text sent.2,
            (now.1, g.met.T.Tables.settled _ _ now.1.0 b.0),
          )),
    )

pub returns-clause-answered : goal.returns-clause-answered
returns-clause-answered g c =
    let d = c.in-Ok-decide.ensures.ok in
    let sent = when_ok c.send.result _ (sym c.is_err.ensures.value ∙ c.if-is_err.false) c.send.ensures.ok in
    let k = kind (g.U.Unit.wants c.args.unit.now) g.U.Unit.text in
    let x = asked (g.U.Unit.shown c.args.unit.now) (c.in-Ok.pair.0, c.in-Ok.pair.1) d.wanted in (
      x,
      refl,
      one_answered k _ x d.asks c.in-Ok.ensures.gives
          (λ V b.
          let now = d.told b.0 V b.1 in
          let text = c.deref.ensures.value
          ∙ text_is k V x _ _ (c.in-Ok-text.ensures d.wanted d.stands) now.0 in (
            subst (λ (t : List ℕ). Appends (g.W.Write.contents (inner_of c.args.writer.now))
                (g.W.Write.contents (inner_of c.send.new.writer)) t) text sent,
            (now.1, g.met.T.Tables.settled _ _ now.1.0 b.0),
          )),
      λ V b. c.reply_of.ensures ∙ (d.told b.0 V b.1).0,
    )
