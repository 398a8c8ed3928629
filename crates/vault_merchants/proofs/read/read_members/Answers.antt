use Rattle.std.proofs.Common.{◌≡◌, ◌∙◌, ◌∷◌, ◌++◌, [], sym, ap, subst, append_assoc, append-nil, string_bytes}
use Rattle.std.proofs.Common.{inr}
use Rattle.std.proofs.lemmas.Result.{err_from_is_err_and}
use Rattle.toml.proofs.Views.{Entry}
use Rattle.toml.specs.View.{members_view, view}
use Rattle.vault_rights.proofs.Members.{Ascend, first-fault}
use Rattle.vault_rights.specs.Faults.{IsFirstFault}
use Rattle.vault_merchants.specs.Faults.{IsMerchantFault, IsProperMerchant}
use Rattle.vault_merchants.specs.ListedMerchants.{AreRowsOf, IsRowOf}
use Rattle.vault_merchants.proofs.RowsOf.{rows_proper, rows_then}
use Rattle.vault_merchants.proofs.read.read_members.Goals as goal

pub loop-key-preserved : goal.loop-key-preserved
loop-key-preserved c =
    let (done, whole, are) = c.loop-key.invariant in
    let e : Entry = (c.in-Some.key.now, c.in-Some.value.now) in
    let left = c.next.new.self in
    let all : c.args.document.now.entries ≡ done ++ e ∷ left =
    whole ∙ ap (λ es. done ++ es) c.in-Some.ensures.steps in
    let row = c.in_ok-row.row in
    let here : IsRowOf (string_bytes e.0) (view e.1) row =
    subst (λ k. IsRowOf k (view e.1) row) c.as_str.ensures.value c.in_ok-row.ensures.row in (
      done ++ e ∷ [],
      all ∙ sym (append_assoc done (e ∷ []) left),
      subst (λ rows. AreRowsOf (members_view (done ++ e ∷ [])) rows) (sym c.in-Ok.ensures.items)
          (rows_then done e c.loop-key.rows.items row are here),
    )

pub returns-in_err-row-clause-fault : goal.returns-in_err-row-clause-fault
returns-in_err-row-clause-fault c =
    let p = err_from_is_err_and c.from_residual.result c.from_residual.ensures.1 in
    let (done, whole, are) = c.loop-key.invariant in
    let e : Entry = (c.in-Some.key.now, c.in-Some.value.now) in
    let left = c.next.new.self in
    let all : c.args.document.now.entries ≡ done ++ e ∷ left =
    whole ∙ ap (λ es. done ++ es) c.in-Some.ensures.steps in
    let ordered : Ascend (done ++ e ∷ left) = subst Ascend all c.iter-key-items.ensures.ordered in
    let fault = c.in_err-row.field-0.0 in
    let here = subst (λ k. IsMerchantFault k (view e.1) fault) c.as_str.ensures.value
    c.in_err-row.ensures.fault in
    rw (p.1, p.2)
    (inr
    (subst (λ es. IsFirstFault IsProperMerchant IsMerchantFault (members_view es) fault) (sym all)
    (first-fault IsProperMerchant IsMerchantFault done e left fault ordered
    (rows_proper done c.loop-key.rows.items are) here)))
