use Rattle.std.proofs.Common.{pos, arith, inl, inr, refl, sym, ap, ◌∙◌}
use Rattle.std.proofs.lemmas.List.{take_all}
use Rattle.sqlite.specs.declared.types.Value.TheVariants.{Int}
use Rattle.sqlite_rules.proofs.ListLemmas.{all_has, all_more, has_at}
use Rattle.sqlite_rules.specs.Lists.{Has}
use Rattle.vault_sql.proofs.merchants.total_of.Goals as goal

pub loop-row-init : goal.loop-row-init
loop-row-init c = tt

pub returns-then-found-number : goal.returns-then-found-number
returns-then-found-number c =
    let there : Has c.args.rows.now c.row-item.result =
    has_at c.args.rows.now c.loop-row.row-index c.row-item.result c.loop-row-test.true c.row-item.is in
    inl (
      c.row-item.result,
      there,
      c.in_ok-found.ensures.ok.1
          ∙ ap (λ n. Int (pos n)) (c.if-found-number.true ∙ c.number-number.ensures),
      c.in_ok-get.ensures.ok.1,
    )

pub loop-row-preserved : goal.loop-row-preserved
loop-row-preserved c =
    all_more _ c.args.rows.now c.loop-row.row-index c.row-item.result c.loop-row-test.true c.row-item.is
    c.loop-row.invariant
    (λ is. c.if-found-number.false (let same = sym c.in_ok-found.ensures.ok.1 ∙ is in cc))

pub returns : goal.returns
returns c =
    let all = c.args.rows.now in
    let last = c.loop-row.auto.row-index-end in
    let past = c.loop-row-test.false in
    let whole = take_all c.loop-row.row-index all (omega (arith, last, past)) in
    inr (
      refl,
      λ r there is. all_has _ all r (rw whole at c.loop-row.invariant) there
          (is ∙ ap (λ n. Int (pos n)) (sym c.number-number.ensures)),
    )
