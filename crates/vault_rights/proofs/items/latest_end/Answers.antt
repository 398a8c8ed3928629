use Rattle.std.proofs.Common.{rules, ◌≡◌, ◌+◌, true, false, take, sym, subst, arith}
use Rattle.vault_rights.specs.Items.{IsGranted}
use Rattle.vault_rights.proofs.Latest.{IsLatestOf, latest-more, latest-other, none-granted}
use Rattle.vault_rights.proofs.items.latest_end.Goals as goal
use Rattle.vault_rights.proofs.items.latest_end.Goals.{then-eq, else-eq}

pub loop-grant-preserved : goal.loop-grant-preserved
loop-grant-preserved c =
    let next = c.loop-grant.grant-index + 1 in
    let so_far = IsLatestOf (IsGranted (take next c.args.grants.now) c.args.right) in
    elim c.if-eq.branch [
      | then-eq w ↦
          let yes : c.eq.result ≡ true = w.if-eq.true in
          let same : c.grant-item.result.0 ≡ c.args.right = search (rules, c.eq.ensures, yes) in
          subst so_far (sym w.latest-is)
          (latest-more c.args.grants.now c.loop-grant.grant-index c.grant-item.result c.loop-grant-test.true
          c.grant-item.is c.args.right c.loop-grant.latest w.later_end.result same c.loop-grant.invariant
          w.later_end.ensures)
      | else-eq w ↦
          let no : c.eq.result ≡ false = w.if-eq.false in
          subst so_far (sym w.latest-is)
          (latest-other c.args.grants.now c.loop-grant.grant-index c.grant-item.result c.loop-grant-test.true
          c.grant-item.is c.args.right c.loop-grant.latest
          (λ same. search (rules, c.eq.ensures, no, same)) c.loop-grant.invariant)
    ]

pub returns-clause-none : goal.returns-clause-none
returns-clause-none c =
    none-granted c.args.grants.now c.loop-grant.grant-index c.args.right c.loop-grant.latest
    (omega (arith, c.loop-grant-test.false)) c.loop-grant.invariant
