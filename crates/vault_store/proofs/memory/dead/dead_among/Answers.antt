use Rattle.std.proofs.Common.{◌≡◌, ◌++◌, length, take, sym, ap, ◌∙◌, append-nil}
use Rattle.std.proofs.Math.Seq.{take-append_seam}
use Rattle.std.proofs.lemmas.List.{take_all}
use Rattle.vault_store.proofs.DeadLemmas.{dead_in, dead-is}
use Rattle.vault_store.proofs.memory.dead.dead_among.Goals as goal

pub returns-then-len-limit : goal.returns-then-len-limit
returns-then-len-limit c V now shows at =
    let a = c.args in
    let xs = c.loop-owner.tokens.items in
    let left = dead_in a.merchant a.at c.loop-owner.owner-iterator in
    let full : length xs ≡ a.limit =
    sym c.loop-owner.tokens.ok.0 ∙ sym c.len.ensures ∙ c.if-len-limit.true in
    let listed : xs ++ left ≡ dead_in a.merchant a.at a.entries.now.entries = c.loop-owner.invariant.listed in
    let all = dead-is V a.entries.now c.iter-owner-items.ensures.ordered shows a.merchant now in
    sym (take-append_seam xs left)
    ∙ (λ i. take (full i) (listed i))
    ∙ ap (take a.limit) (ap (λ t. dead_in a.merchant t a.entries.now.entries) (sym at) ∙ sym all)

pub returns : goal.returns
returns c V now shows at =
    let a = c.args in
    let xs = c.loop-owner.tokens.items in
    let ended = c.in-None.ensures.steps.0 in
    let listed = sym (append-nil xs) ∙ sym (ap (λ es. xs ++ dead_in a.merchant a.at es) ended)
    ∙ c.loop-owner.invariant.listed in
    let all = dead-is V a.entries.now c.iter-owner-items.ensures.ordered shows a.merchant now in
    sym (take_all a.limit xs c.loop-owner.invariant.within)
    ∙ ap (take a.limit)
    (listed ∙ ap (λ t. dead_in a.merchant t a.entries.now.entries) (sym at) ∙ sym all)
