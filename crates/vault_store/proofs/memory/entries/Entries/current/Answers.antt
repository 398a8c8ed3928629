use Rattle.std.proofs.Common.{Option, sym, ◌∙◌, subst, arith}
use Rattle.std.specs.BTreeSet.{BTreeSet, contains}
use Rattle.vault_store.specs.Index.{Place, ShowsIndex, key_at, number_cmp}
use Rattle.vault_store.specs.declared.memory.index.NumberKey.{NumberKey}
use Rattle.vault_store.proofs.IndexLemmas.{clash}
use Rattle.vault_store.proofs.LatestLemmas.{on_none}
use Rattle.vault_store.proofs.ListedLemmas.{ends_after, listed}
use Rattle.vault_store.proofs.memory.entries.Entries.current.Goals as goal

pub returns-in_err-end-clause-none : goal.returns-in_err-end-clause-none
returns-in_err-end-clause-none c F held =
    let a = c.args in
    let index = subst (λ (o : Option (BTreeSet NumberKey)). ShowsIndex o F) c.in-Some.is held.index in
    on_none c.from_residual.result
    (λ token live.
    let place : Place = (live.0.expires, token) in
    clash (contains number_cmp c.in-Some.index (key_at a.merchant a.pan.now place))
    (listed a.merchant a.pan.now token a.at live.0 live.2 c.in-Some.index F index
    (sym (held.rows.at (a.merchant, token)) ∙ live.1))
    (c.in_err-end.ensures.none place))

pub returns-else-seconds-end-clause-none : goal.returns-else-seconds-end-clause-none
returns-else-seconds-end-clause-none c F held token live =
    let a = c.args in
    let index = subst (λ (o : Option (BTreeSet NumberKey)). ShowsIndex o F) c.in-Some.is held.index in
    let no_later =
    c.in_ok-end.ensures.latest (live.0.expires, token)
    (listed a.merchant a.pan.now token a.at live.0 live.2 c.in-Some.index F index
    (sym (held.rows.at (a.merchant, token)) ∙ live.1)) in
    let after = ends_after a.merchant a.pan.now token a.at live.0 live.2 in
    let moment = c.seconds.ensures.value in
    let over = c.if-seconds-end.false in
    omega (arith, no_later, after, moment, over)
