use Rattle.std.proofs.Common.{rules, subst, sym}
use Rattle.vault_core.specs.Scalar.{IsMoment}
use Rattle.vault_live.proofs.ProperChanges.{changes_proper}
use Rattle.vault_live.proofs.Unaccepted.{changes_refused}
use Rattle.vault_live.specs.Kinds.{AreSteps}
use Rattle.vault_live.proofs.rights.RightsKind.changes.Goals as goal

pub returns-clause-steps : goal.returns-clause-steps
returns-clause-steps g c = λ V b.
    let moment : IsMoment c.args.now = search (rules, c.well_formed) in
    let kept = (c.in_ok-lacks_one.ensures.told V (c.in_ok-changes.ensures.disk_honest b.0, b.1)).1 in
    subst AreSteps (sym (c.in_ok-changes.ensures.found V (b.0, kept.0)).0.commands)
    (record {
      proper = changes_proper c.requires.named.0 c.args.rows.now c.args.now V c.requires.named.1 moment
          b.1.1;
      keeps = changes_refused c.args.now c.args.rows.now V;
    })
