use Rattle.std.proofs.Common.{◌≡◌, Ok, sym, inl, inr, refl, subst}
use Rattle.vault_core.specs.Name.{IsName}
use Rattle.vault_routes.specs.Wanted.{WantsAsker}
use Rattle.vault_refusal.specs.declared.refusal.Refusal.TheVariants as refusal
use Rattle.vault_routes.proofs.WantedLemmas.{refused_as}
use Rattle.vault_routes.proofs.wanted.Asker.read.Goals as goal

pub returns-in_err-caller : goal.returns-in_err-caller
returns-in_err-caller c = record {
  wanted = refused_as (WantsAsker c.args.message.now c.args.merchant.now c.args.now (λ a r. r ≡ Ok a))
      c.from_residual.result c.in_err-caller.field-0.0 refusal.BadName c.from_residual.ensures.1
      c.in_err-caller.ensures.refused
      (inl (
        c.in-Some.caller.now,
        sym c.in-Some.ensures,
        inr ((λ is. (let clash = c.in_err-caller.ensures.name.1 is in cc)), refl),
      ));
}

pub returns-in_err-merchant : goal.returns-in_err-merchant
returns-in_err-merchant c = record {
  wanted = refused_as (WantsAsker c.args.message.now c.args.merchant.now c.args.now (λ a r. r ≡ Ok a))
      c.from_residual-in_err-merchant.result c.in_err-merchant.field-0.0 refusal.BadName
      c.from_residual-in_err-merchant.ensures.1 c.in_err-merchant.ensures.refused
      (inl (
        c.in-Some.caller.now,
        sym c.in-Some.ensures,
        inl (
          c.in_ok-caller.ensures.name.0 refl,
          inr (
            (λ is. (let clash = c.in_err-merchant.ensures.name.1
                (subst IsName (sym c.as_bytes.ensures.value) is) in cc)),
            refl,
          ),
        ),
      ));
}
