use Rattle.std.proofs.Common.{sym, ◌∙◌}
use Rattle.vault_pan.specs.CardText.{same}
use Rattle.vault_core.proofs.CurrentLemmas.{same-is}
use Rattle.vault_store.proofs.IndexLemmas.{clash}
use Rattle.vault_store.proofs.LatestLemmas.{empty-none, last-later, last-there, last-latest, last-none}
use Rattle.vault_store.proofs.LatestLemmas.{not_true, on_none}
use Rattle.vault_store.proofs.LiveLemmas.{same_itself}
use Rattle.vault_store.proofs.memory.index.latest.Goals.{else-eq-via-then-eq+else-eq-2, else-eq-via-else-eq}
use Rattle.vault_store.proofs.memory.index.latest.Goals as goal

pub returns-in_err-last-clause-none : goal.returns-in_err-last-clause-none
returns-in_err-last-clause-none c =
    on_none c.from_residual.result
    (empty-none c.args.index.now c.args.merchant c.args.pan.now c.range.result (c.range.ensures.in_range tt)
    c.in_err-last.ensures.steps.0)

pub returns-then-eq-2-clause-there : goal.returns-then-eq-2-clause-there
returns-then-eq-2-clause-there c =
    let a = c.args in
    let k = c.in_ok-last.last.now in
    last-there a.index.now a.merchant a.pan.now c.range.result (c.range.ensures.in_range tt)
    c.next_back.new.self k c.in_ok-last.ensures.steps c.ok.result c.ok.ensures.value
    (same-is k.merchant a.merchant (sym c.eq.ensures ∙ c.if-eq.true))
    (same-is k.number a.pan.now (sym c.eq-then-eq.ensures ∙ c.if-eq-2.true))

pub returns-then-eq-2-clause-latest : goal.returns-then-eq-2-clause-latest
returns-then-eq-2-clause-latest c =
    let a = c.args in
    last-latest a.index.now a.merchant a.pan.now c.range.result (c.range.ensures.in_range tt)
    c.next_back.new.self c.in_ok-last.last.now c.in_ok-last.ensures.steps c.ok.result c.ok.ensures.value

pub returns-then-eq-2-clause-none : goal.returns-then-eq-2-clause-none
returns-then-eq-2-clause-none c =
    let a = c.args in
    last-none a.index.now a.merchant a.pan.now c.range.result (c.range.ensures.in_range tt)
    c.next_back.new.self c.in_ok-last.last.now c.in_ok-last.ensures.steps c.ok.result c.ok.ensures.value

pub returns-else-eq-clause-none : goal.returns-else-eq-clause-none
returns-else-eq-clause-none c place =
    let a = c.args in
    let k = c.in_ok-last.last.now in
    not_true _ (λ there.
    let l =
    last-later a.index.now a.merchant a.pan.now c.range.result (c.range.ensures.in_range tt)
    c.next_back.new.self k c.in_ok-last.ensures.steps place there in
    elim c.else-eq.branch [
      | else-eq-via-then-eq+else-eq-2 w ↦
          clash (same k.number a.pan.now) (same_itself k.number a.pan.now l.number)
          (sym w.eq-then-eq.ensures ∙ w.if-eq-2.false)
      | else-eq-via-else-eq w ↦
          clash (same k.merchant a.merchant) (same_itself k.merchant a.merchant l.merchant)
          (sym c.eq.ensures ∙ w.if-eq.false)
    ])
