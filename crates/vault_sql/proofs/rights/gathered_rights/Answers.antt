use Rattle.std.proofs.Common.{arith, ap, sym, subst, ◌∙◌, Some}
use Rattle.std.proofs.lemmas.List.{take_all}
use Rattle.std.specs.BTreeMap.{is_at}
use Rattle.std.specs.Map.{lookup}
use Rattle.vault_core.specs.Keys.{right_cmp}
use Rattle.vault_core.proofs.Maps.{right_exact, right_total}
use Rattle.vault_sql.specs.ListedRows.{ShowsRight}
use Rattle.vault_sql.specs.Gathered.{Gathers}
use Rattle.vault_sql.proofs.Gathered.{gathers_none, gathers_more}
use Rattle.vault_store.proofs.Results.{not_err}
use Rattle.vault_store.proofs.RightOrder.{updates-derived}
use Rattle.vault_sql.proofs.rights.gathered_rights.Goals as goal

pub loop-row-init : goal.loop-row-init
loop-row-init c =
    gathers_none ShowsRight c.new-found.result
    (λ k. ap (lookup (is_at (right_cmp k))) c.new-found.ensures.empty)

pub loop-row-preserved : goal.loop-row-preserved
loop-row-preserved c =
    let put = c.insert in
    let done = not_err put.result _ (sym c.is_err.ensures.value ∙ c.if-is_err.false) put.ensures.updates in
    let x = c.in-Ok in
    gathers_more ShowsRight right_total right_exact c.args.rows.now c.loop-row.row-index c.row-item.result
    c.loop-row.found put.new.self x.key x.grant c.loop-row-test.true c.row-item.is x.ensures
    (updates-derived c.loop-row.found put.new.self x.key (Some x.grant) done.0) c.loop-row.invariant

pub returns : goal.returns
returns c =
    subst (λ l. Gathers right_cmp ShowsRight l c.loop-row.found)
    (take_all c.loop-row.row-index c.args.rows.now
    (omega (arith, c.loop-row.auto.row-index-end, c.loop-row-test.false))) c.loop-row.invariant
