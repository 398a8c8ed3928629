use Rattle.std.proofs.Common.{rules, subst, sym}
use Rattle.vault_core.specs.Scalar.{IsMoment}
use Rattle.vault_live.proofs.ProperSettings.{listed_lives, settings_proper}
use Rattle.vault_live.proofs.Unaccepted.{settings_refused}
use Rattle.vault_live.specs.Kinds.{AreSteps}
use Rattle.vault_live.proofs.merchants.MerchantsKind.changes.Goals as goal

pub returns-clause-steps : goal.returns-clause-steps
returns-clause-steps g c = λ V b.
    let moment : IsMoment c.args.now = search (rules, c.well_formed) in
    let kept = (c.in_ok-are_too_many.ensures.told V (c.in_ok-commands.ensures.disk_honest b.0, b.1)).1 in
    subst AreSteps (sym (c.in_ok-commands.ensures.found V (b.0, kept.0)).0)
    (record {
      proper = settings_proper c.requires.named.0 c.args.rows.now c.args.now V c.requires.named.1 moment;
      keeps = settings_refused c.args.now c.args.rows.now V;
    })

pub returns-clause-carried : goal.returns-clause-carried
returns-clause-carried g c =
    c.in_ok-commands.ensures.carried (listed_lives c.requires.named.0 c.args.rows.now c.requires.named.1)
