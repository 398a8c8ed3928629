use Rattle.std.proofs.Common.{arith, ap, sym, subst, ◌∙◌}
use Rattle.std.proofs.lemmas.List.{take_all}
use Rattle.std.specs.BTreeMap.{is_at}
use Rattle.std.specs.Map.{lookup}
use Rattle.vault_core.specs.Keys.{bytes_cmp}
use Rattle.vault_core.proofs.Maps.{bytes_exact, bytes_total}
use Rattle.vault_sql.specs.Gathered.{Gathers, ShowsName}
use Rattle.vault_sql.proofs.Gathered.{gathers_none, gathers_more}
use Rattle.vault_store.proofs.Results.{not_err}
use Rattle.vault_sql.proofs.name_lists.gathered_names.Goals as goal

pub loop-row-init : goal.loop-row-init
loop-row-init c =
    gathers_none ShowsName c.new-found.result
    (λ k. ap (lookup (is_at (bytes_cmp k))) c.new-found.ensures.empty)

pub loop-row-preserved : goal.loop-row-preserved
loop-row-preserved c =
    let put = c.insert in
    let done = not_err put.result _ (sym c.is_err.ensures.value ∙ c.if-is_err.false) put.ensures.updates in
    let x = c.in-Ok in
    gathers_more ShowsName bytes_total bytes_exact c.args.rows.now c.loop-row.row-index c.row-item.result
    c.loop-row.found put.new.self x.name tt c.loop-row-test.true c.row-item.is x.ensures done.0
    c.loop-row.invariant

pub returns : goal.returns
returns c =
    subst (λ l. Gathers bytes_cmp ShowsName l c.loop-row.found)
    (take_all c.loop-row.row-index c.args.rows.now
    (omega (arith, c.loop-row.auto.row-index-end, c.loop-row-test.false))) c.loop-row.invariant
