use Rattle.std.proofs.Common.{◌≡◌, ℕ, List, Ok, Err, sym, inl, inr, refl, subst, ap, ◌∙◌}
use Rattle.std.specs.Prelude.{string_bytes}
use Rattle.std.specs.Str.Parse.{digits_value}
use Rattle.vault_pan.specs.Pan.{ReadsPan}
use Rattle.vault_pan.specs.Pan as pan
use Rattle.vault_routes.specs.Wanted.{Wanted, WantsOrder}
use Rattle.vault_refusal.specs.declared.refusal.Refusal.TheVariants as refusal
use Rattle.vault_routes.specs.declared.wanted.Order.{Order}
use Rattle.vault_routes.proofs.WantedLemmas.{no_body, no_pan, order_body, pan_is, refused_as, refused_by}
use Rattle.vault_routes.proofs.wanted.Order.read.Goals as goal

pub returns-in_err-request : goal.returns-in_err-request
returns-in_err-request c = record {
  wanted = refused_as (WantsOrder c.args.message.now (λ o r. r ≡ Ok o))
      c.from_residual.result c.in_err-request.field-0.0 refusal.BadRequestNumber c.from_residual.ensures.1
      c.in_err-request.ensures.refused
      (inl (
        c.in-Some.request.now,
        sym c.in-Some.ensures,
        inr ((λ is. (let clash = c.in_err-request.ensures.request.1 is in cc)), refl),
      ));
}

pub returns-in-None : goal.returns-in-None
returns-in-None c = record {
  wanted = λ _.
      order_body c.args.message.now (λ o r. r ≡ Ok o) c.in-Some.request.now c.body.result.now _
      (sym c.in-Some.ensures) (c.in_ok-request.ensures.request.0 refl) c.body.ensures
      (no_body c.body.result.now (digits_value 10 c.in-Some.request.now) (λ o r. r ≡ Ok o)
      (rw c.in-None.is at c.in-Ok.ensures));
}

pub returns-in_err-pan : goal.returns-in_err-pan
returns-in_err-pan c = record {
  wanted = refused_by (WantsOrder c.args.message.now (λ o r. r ≡ Ok o))
      c.from_residual-in_err-pan.result (pan.refusal_of c.in_err-pan.field-0.0)
      c.from_residual-in_err-pan.ensures.1
      (λ _. order_body c.args.message.now (λ o r. r ≡ Ok o) c.in-Some.request.now c.body.result.now _
      (sym c.in-Some.ensures) (c.in_ok-request.ensures.request.0 refl) c.body.ensures
      (no_pan c.in_err-pan.field-0.0 c.body.result.now (digits_value 10 c.in-Some.request.now)
      (λ o r. r ≡ Ok o)
      (string_bytes c.in-Some-body.texts.number, string_bytes c.in-Some-body.texts.usage)
      (rw c.in-Some-body.is at c.in-Ok.ensures)
      (subst (λ text. ReadsPan text (Err c.in_err-pan.field-0.0)) c.as_bytes.ensures.value
      c.in_err-pan.ensures)));
}

pub returns-in_err-usage : goal.returns-in_err-usage
returns-in_err-usage c =
    let number = string_bytes c.in-Some-body.texts.number in
    let reads =
    subst (λ text. ReadsPan text (Ok c.in_ok-pan.pan)) c.as_bytes.ensures.value c.in_ok-pan.ensures in
    let read = pan_is number c.in_ok-pan.pan reads in
    record {
      wanted = refused_as (WantsOrder c.args.message.now (λ o r. r ≡ Ok o))
          c.from_residual-in_err-usage.result c.in_err-usage.field-0.0 refusal.BadUse
          c.from_residual-in_err-usage.ensures.1 c.in_err-usage.ensures.refused
          (order_body c.args.message.now (λ o r. r ≡ Ok o) c.in-Some.request.now c.body.result.now _
          (sym c.in-Some.ensures) (c.in_ok-request.ensures.request.0 refl) c.body.ensures
          (inl (
            (number, string_bytes c.in-Some-body.texts.usage),
            (rw c.in-Some-body.is at c.in-Ok.ensures),
            inl (
              read.0,
              inl (
                read.1,
                inr (
                  (λ usage is. c.in_err-usage.ensures.none usage (c.as_bytes-2.ensures.value ∙ is)),
                  refl,
                ),
              ),
            ),
          )));
    }

pub returns : goal.returns
returns c =
    let number = string_bytes c.in-Some-body.texts.number in
    let reads =
    subst (λ text. ReadsPan text (Ok c.in_ok-pan.pan)) c.as_bytes.ensures.value c.in_ok-pan.ensures in
    let read = pan_is number c.in_ok-pan.pan reads in
    let made : ℕ → List ℕ → Wanted Order =
    λ request pan. Ok (record { request = request; usage = c.in_ok-usage.usage; pan = pan }) in
    record {
      wanted = order_body c.args.message.now (λ o r. r ≡ Ok o) c.in-Some.request.now c.body.result.now _
          (sym c.in-Some.ensures) (c.in_ok-request.ensures.request.0 refl) c.body.ensures
          (inl (
            (number, string_bytes c.in-Some-body.texts.usage),
            (rw c.in-Some-body.is at c.in-Ok.ensures),
            inl (
              read.0,
              inl (
                read.1,
                inl (
                  c.in_ok-usage.usage,
                  sym c.as_bytes-2.ensures.value ∙ c.in_ok-usage.ensures.word,
                  ap (λ n. made n c.in_ok-pan.pan) c.in_ok-request.ensures.value ∙ ap (made _) read.2,
                ),
              ),
            ),
          ));
    }
