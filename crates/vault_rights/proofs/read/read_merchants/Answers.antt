use Rattle.std.proofs.Common.{◌≡◌, ◌∙◌, ◌∷◌, ◌++◌, [], sym, ap, subst, inl, inr, append_assoc}
use Rattle.std.proofs.Common.{append-nil, string_bytes}
use Rattle.std.proofs.lemmas.Result.{err_from_is_err_and}
use Rattle.toml.proofs.Views.{Entry}
use Rattle.toml.specs.View.{view, members_view}
use Rattle.vault_rights.specs.Named.{HasMerchant, HasRight, IsExtendedBy}
use Rattle.vault_rights.specs.Proper.{EachMember, IsProperMerchant}
use Rattle.vault_rights.specs.Faults.{IsMerchantFault, IsFirstFault}
use Rattle.vault_rights.proofs.Lists.{all-append, extended-nil, extended-same}
use Rattle.vault_rights.proofs.Members.{Ascend, rows-more, each-member, first-fault}
use Rattle.vault_rights.proofs.Numbers.{same-caller-below}
use Rattle.vault_rights.proofs.read.read_merchants.Goals as goal

pub loop-key-init : goal.loop-key-init
loop-key-init c = (
  [],
  sym (c.into_iter-key-iterator.ensures.into_iter_gives ∙ c.iter-key-items.ensures.rest),
  tt,
  extended-nil _ _ (λ row (value, found, gives). cc),
)

pub loop-key-preserved : goal.loop-key-preserved
loop-key-preserved c =
    let (done, whole, good, rows) = c.loop-key.invariant in
    let e : Entry = (c.in-Some.key.now, c.in-Some.value.now) in
    let left = c.next.new.self in
    let all : c.args.members.now.entries ≡ done ++ e ∷ left =
    whole ∙ ap (λ es. done ++ es) c.in-Some.ensures.steps in
    let ordered : Ascend (done ++ e ∷ left) = subst Ascend all c.iter-key-items.ensures.ordered in
    let named : c.as_str.result.now ≡ string_bytes e.0 = c.as_str.ensures.value in
    let here : IsProperMerchant (string_bytes e.0) (view e.1) =
    subst (λ k. IsProperMerchant k (view e.1)) named c.in_ok-read_merchant.ensures.proper in (
      done ++ e ∷ [],
      all ∙ sym (append_assoc done (e ∷ []) left),
      all-append (λ (t : Entry). IsProperMerchant (string_bytes t.0) (view t.1)) done (e ∷ []) good
          (here, tt),
      rows-more (λ row. row.1)
          (λ d row. (row.0 ≡ c.args.caller) × HasRight d row.2 row.3) _ done e left _ _ _ ordered rows
          c.in_ok-read_merchant.ensures.rows
          (λ row. (λ q. (q.1 ∙ named, (q.0, q.2)), λ q. (q.1.0, q.0 ∙ sym named, q.1.1)))
          (λ a b d f less v w. same-caller-below a b (v.0 ∙ sym w.0) less),
    )

pub returns-in_err-read_merchant-clause-fault : goal.returns-in_err-read_merchant-clause-fault
returns-in_err-read_merchant-clause-fault c =
    let p = err_from_is_err_and c.from_residual.result c.from_residual.ensures.1 in
    let (done, whole, good, rows) = c.loop-key.invariant in
    let e : Entry = (c.in-Some.key.now, c.in-Some.value.now) in
    let left = c.next.new.self in
    let all : c.args.members.now.entries ≡ done ++ e ∷ left =
    whole ∙ ap (λ es. done ++ es) c.in-Some.ensures.steps in
    let ordered : Ascend (done ++ e ∷ left) = subst Ascend all c.iter-key-items.ensures.ordered in
    let fault = c.in_err-read_merchant.field-0.0 in
    rw (p.1, p.2)
    (elim c.in_err-read_merchant.ensures.fault [
      | inl memory ↦ inl memory
      | inr bad ↦
          let here = subst (λ k. IsMerchantFault k (view e.1) fault) c.as_str.ensures.value bad in
          inr
          (subst (λ es. IsFirstFault IsProperMerchant IsMerchantFault (members_view es) fault) (sym all)
          (first-fault IsProperMerchant IsMerchantFault done e left fault ordered good here))
    ])

pub returns-clause-proper : goal.returns-clause-proper
returns-clause-proper c =
    let (done, whole, good, rows) = c.loop-key.invariant in
    let all = whole ∙ ap (λ es. done ++ es) c.in-None.ensures.steps.0 ∙ append-nil done in
    subst (λ es. EachMember IsProperMerchant (members_view es)) (sym all)
    (each-member IsProperMerchant done good)

pub returns-clause-rows : goal.returns-clause-rows
returns-clause-rows c =
    let (done, whole, good, rows) = c.loop-key.invariant in
    let all = whole ∙ ap (λ es. done ++ es) c.in-None.ensures.steps.0 ∙ append-nil done in
    let named =
    extended-same _
    (λ row. (row.0 ≡ c.args.caller) × HasMerchant (members_view done) row.1 row.2 row.3) _ _ rows
    (λ row. (λ q. (q.2.0, (q.0, q.1, q.2.1)), λ q. (q.1.0, q.1.1, (q.0, q.1.2)))) in
    subst
    (λ es. IsExtendedBy (λ row. (row.0 ≡ c.args.caller) × HasMerchant (members_view es) row.1 row.2 row.3)
    c.args.rows.now.items
    c.loop-key.rows.items)
    (sym all) named
