use Rattle.std.proofs.Common.{◌∙◌, ap, arith}
use Rattle.vault_rights.proofs.Lists.{extended-nil, extended-same, extended-along}
use Rattle.vault_rights.proofs.Numbers.{IsRowUpTo, rows-pushed, rows-kept, number-at}
use Rattle.vault_rights.proofs.Words.{number-within}
use Rattle.vault_rights.proofs.items.push_rows.Goals as goal
use Rattle.vault_rights.proofs.items.push_rows.Goals.{in-Some+in_ok-push, in_default}

pub loop-right-init : goal.loop-right-init
loop-right-init c =
    extended-nil (IsRowUpTo c.args.caller c.args.merchant c.args.grants.now 0) c.args.rows.now.items
    (λ row p. let w = number-within row.2 in absurd (omega (arith, p.2, w.0)))

pub loop-right-preserved : goal.loop-right-preserved
loop-right-preserved c =
    elim c.match-latest_end.branch [
      | in-Some+in_ok-push w ↦
          let pushed = rows-pushed c.args.caller c.args.merchant c.args.grants.now
          c.loop-right.right-index _ w.in-Some.until c.args.rows.now.items c.loop-right.rows.items
          (number-at c.loop-right.right-index _ c.loop-right-test.true)
          w.in-Some.ensures.some c.loop-right.invariant in
          extended-along _ _ _ _ pushed (ap (λ v. v.items) w.rows-is ∙ w.in_ok-push.ensures.items)
      | in_default w ↦
          extended-along _ _ c.loop-right.rows.items _
          (rows-kept c.args.caller c.args.merchant c.args.grants.now c.loop-right.right-index _
          c.args.rows.now.items c.loop-right.rows.items
          (number-at c.loop-right.right-index _ c.loop-right-test.true)
          w.in_default.ensures.none
          c.loop-right.invariant)
          (ap (λ v. v.items) w.rows-is)
    ]

pub returns : goal.returns
returns c = record {
  rows = extended-same _ _ c.args.rows.now.items c.loop-right.rows.items c.loop-right.invariant
      (λ row. (
        λ p. (p.0, p.1, p.3),
        λ r. let w = number-within row.2 in
            (r.0, r.1, omega (arith, w.1, c.loop-right-test.false), r.2),
      ));
}
