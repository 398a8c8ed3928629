use Rattle.std.proofs.Common.{◌≡◌, ◌∙◌, ◌∷◌, ◌++◌, [], sym, ap, subst, refl, append_assoc, Some}
use Rattle.std.proofs.Common.{append-nil, string_bytes}
use Rattle.toml.proofs.Views.{Entry}
use Rattle.toml.specs.Data.{get_member}
use Rattle.toml.specs.View.{members_view, view}
use Rattle.vault_rights.specs.Proper.{EachMember}
use Rattle.vault_rights.proofs.Lists.{all-append}
use Rattle.vault_rights.proofs.Members.{Ascend, each-member, found-at}
use Rattle.vault_merchants.specs.ListedMerchants.{IsKnown}
use Rattle.vault_merchants.proofs.table.has_only_known.Goals as goal

pub loop-key-preserved : goal.loop-key-preserved
loop-key-preserved c =
    let (done, whole, good) = c.loop-key.invariant in
    let e : Entry = (c.in-Some.key.now, c.in-Some.field-0-1.now) in
    let left = c.next.new.self in
    let all : c.args.members.now.entries ≡ done ++ e ∷ left =
    whole ∙ ap (λ es. done ++ es) c.in-Some.ensures.steps in
    let here : IsKnown (string_bytes e.0) =
    subst IsKnown c.as_str.ensures.value (c.if-not-is_known.ensures.0 refl) in (
      done ++ e ∷ [],
      all ∙ sym (append_assoc done (e ∷ []) left),
      all-append (λ (t : Entry). IsKnown (string_bytes t.0)) done (e ∷ []) good (here, tt),
    )

pub returns-then-not-is_known : goal.returns-then-not-is_known
returns-then-not-is_known c =
    let (done, whole, good) = c.loop-key.invariant in
    let e : Entry = (c.in-Some.key.now, c.in-Some.field-0-1.now) in
    let left = c.next.new.self in
    let all : c.args.members.now.entries ≡ done ++ e ∷ left =
    whole ∙ ap (λ es. done ++ es) c.in-Some.ensures.steps in
    let ordered : Ascend (done ++ e ∷ left) = subst Ascend all c.iter-key-items.ensures.ordered in
    let found = subst (λ es. get_member (string_bytes e.0) (members_view es) ≡ Some (view e.1)) (sym all)
    (found-at done e left ordered) in (
      λ yes. cc,
      λ only. c.if-not-is_known.ensures.1
          (subst IsKnown (sym c.as_str.ensures.value) (only (string_bytes e.0) (view e.1) found)),
    )

pub returns : goal.returns
returns c =
    let (done, whole, good) = c.loop-key.invariant in
    let all = whole ∙ ap (λ es. done ++ es) c.in-None.ensures.steps.0 ∙ append-nil done in
    let only = subst (λ es. EachMember (λ key value. IsKnown key) (members_view es)) (sym all)
    (each-member (λ key value. IsKnown key) done good) in
    (λ yes. only, λ known. refl)
