use Rattle.std.proofs.Common.{◌≡◌, Ok, sym, inl, inr, refl, subst, ap, ◌∙◌}
use Rattle.vault_pan.specs.CardText.{IsToken}
use Rattle.vault_routes.specs.Route.{target_of}
use Rattle.vault_routes.specs.Table.{action_at}
use Rattle.vault_routes.specs.Wanted.{Wants, WantsAction, command_for, command_on}
use Rattle.vault_refusal.specs.declared.refusal.Refusal.TheVariants as refusal
use Rattle.vault_routes.specs.declared.table.Action.TheVariants as action
use Rattle.vault_routes.proofs.WantedLemmas.{asker_refused, named, order_read, order_refused, refused_by}
use Rattle.vault_routes.proofs.WantedLemmas.{routed, wants_by, wants_of}
use Rattle.vault_routes.proofs.wanted.command_at.Goals as goal

pub returns-in_default-action-clause-wanted : goal.returns-in_default-action-clause-wanted
returns-in_default-action-clause-wanted c = λ _.
    let target = target_of c.in-Some.route in
    inl (
      target,
      named c.args.route c.in-Some.route _ c.in-Some.is c.requires,
      inr (
        (λ asked is. c.in_default-action.not-Some asked (c.action.ensures
            ∙ ap (action_at target.place) c.method.ensures ∙ is)),
        refl,
      ),
    )

pub returns-in_err-asker-clause-wanted : goal.returns-in_err-asker-clause-wanted
returns-in_err-asker-clause-wanted c =
    let target = target_of c.in-Some.route in
    let by = routed c.args.message.now _ target _ c.in-Some-action.action
    (named c.args.route c.in-Some.route _ c.in-Some.is c.requires) c.method.ensures
    c.in-Some-action.ensures refl in
    refused_by (Wants c.args.message.now c.args.now c.args.digits) c.from_residual.result
    c.in_err-asker.field-0.0
    c.from_residual.ensures.1
    (λ some. wants_of c.args.message.now c.args.now c.args.digits target c.in-Some-action.action _ by.found
    by.takes
    (asker_refused c.args.message.now target.merchant c.args.now
    (WantsAction c.in-Some-action.action target c.args.message.now c.args.digits) _
    (c.in_err-asker.ensures.wanted some)))

pub returns-in_err-order-in-Tokenize-clause-wanted :
    goal.returns-in_err-order-in-Tokenize-clause-wanted
returns-in_err-order-in-Tokenize-clause-wanted c =
    refused_by (Wants c.args.message.now c.args.now c.args.digits)
    c.from_residual-in_err-order-in-Tokenize.result
    c.in_err-order-in-Tokenize.field-0.0 c.from_residual-in_err-order-in-Tokenize.ensures.1
    (λ some. wants_by c.args.message.now c.args.now c.args.digits (target_of c.in-Some.route) action.Tokenize
    c.in_ok-asker.asker _ (routed _ _ _ _ _ (named c.args.route c.in-Some.route _ c.in-Some.is
    c.requires) c.method.ensures
    c.in-Some-action.ensures c.in-Tokenize.is) c.in_ok-asker.ensures.wanted
    (order_refused c.args.message.now (λ o r. r ≡ Ok (command_for c.in_ok-asker.asker o c.args.digits)) _
    (c.in_err-order-in-Tokenize.ensures.wanted some)))

pub returns-in_err-token-in-OnToken-clause-wanted :
    goal.returns-in_err-token-in-OnToken-clause-wanted
returns-in_err-token-in-OnToken-clause-wanted c =
    refused_by (Wants c.args.message.now c.args.now c.args.digits)
    c.from_residual-in_err-token-in-OnToken.result
    refusal.BadToken c.from_residual-in_err-token-in-OnToken.ensures.1
    (λ _. wants_by c.args.message.now c.args.now c.args.digits (target_of c.in-Some.route)
    (action.OnToken c.in-OnToken.what)
    c.in_ok-asker.asker _ (routed _ _ _ _ _ (named c.args.route c.in-Some.route _ c.in-Some.is
    c.requires) c.method.ensures
    c.in-Some-action.ensures c.in-OnToken.is) c.in_ok-asker.ensures.wanted
    (inr (
      (λ is. c.in_err-token-in-OnToken.ensures (subst IsToken (sym c.as_bytes.ensures.value) is)),
      refl,
    )))

pub returns-in_ok-order-in-Tokenize-clause-wanted :
    goal.returns-in_ok-order-in-Tokenize-clause-wanted
returns-in_ok-order-in-Tokenize-clause-wanted c =
    wants_by c.args.message.now c.args.now c.args.digits (target_of c.in-Some.route) action.Tokenize
    c.in_ok-asker.asker _ (routed _ _ _ _ _ (named c.args.route c.in-Some.route _ c.in-Some.is
    c.requires) c.method.ensures
    c.in-Some-action.ensures c.in-Tokenize.is) c.in_ok-asker.ensures.wanted
    (order_read c.args.message.now (λ o r. r ≡ Ok (command_for c.in_ok-asker.asker o c.args.digits))
    c.in_ok-order-in-Tokenize.order _ c.in_ok-order-in-Tokenize.ensures.wanted
    (ap Ok c.order.ensures.asks))

pub returns-in_ok-token-in-OnToken-clause-wanted :
    goal.returns-in_ok-token-in-OnToken-clause-wanted
returns-in_ok-token-in-OnToken-clause-wanted c =
    let read = c.in_ok-token-in-OnToken.ensures in
    wants_by c.args.message.now c.args.now c.args.digits (target_of c.in-Some.route)
    (action.OnToken c.in-OnToken.what)
    c.in_ok-asker.asker _ (routed _ _ _ _ _ (named c.args.route c.in-Some.route _ c.in-Some.is
    c.requires) c.method.ensures
    c.in-Some-action.ensures c.in-OnToken.is) c.in_ok-asker.ensures.wanted
    (inl (
      subst IsToken c.as_bytes.ensures.value read.0,
      ap Ok (c.on.ensures.asks ∙ ap (command_on c.in-OnToken.what c.in_ok-asker.asker)
          (read.1 ∙ c.as_bytes.ensures.value)),
    ))

pub returns-in-Audit-clause-wanted : goal.returns-in-Audit-clause-wanted
returns-in-Audit-clause-wanted c =
    wants_by c.args.message.now c.args.now c.args.digits (target_of c.in-Some.route) action.Audit
    c.in_ok-asker.asker _ (routed _ _ _ _ _ (named c.args.route c.in-Some.route _ c.in-Some.is
    c.requires) c.method.ensures
    c.in-Some-action.ensures c.in-Audit.is) c.in_ok-asker.ensures.wanted refl
