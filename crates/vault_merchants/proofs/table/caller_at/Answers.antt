use Rattle.std.proofs.Common.{◌≡◌, ◌∙◌, ap, refl, subst, sym, Some}
use Rattle.toml.specs.Data.{get_member, string, as_str}
use Rattle.toml.specs.View.{view, table_view}
use Rattle.toml.proofs.Views.{table_get}
use Rattle.vault_core.specs.Keys.{Bytes}
use Rattle.vault_core.specs.Name.{IsName}
use Rattle.vault_rights.proofs.Members.{some_same}
use Rattle.vault_rights.proofs.Pairs.{as-string, if-none}
use Rattle.vault_merchants.proofs.table.caller_at.Goals as goal

pub returns-in_err-get-clause-none : goal.returns-in_err-get-clause-none
returns-in_err-get-clause-none c =
    let no : (name : Bytes) → IsName name
    → ¬ (get_member c.args.key.now (table_view c.args.members.now) ≡ Some (string name)) =
    λ name is h.
    let got = table_get c.get.result c.args.key.now c.args.members.now.entries c.get.ensures.value in
    let none = rw c.in_err-get.was at got in
    cc in
    if-none _ _ no

pub returns-in_err-text-clause-none : goal.returns-in_err-text-clause-none
returns-in_err-text-clause-none c =
    let no : (name : Bytes) → IsName name
    → ¬ (get_member c.args.key.now (table_view c.args.members.now) ≡ Some (string name)) =
    λ name is h.
    let got = table_get c.get.result c.args.key.now c.args.members.now.entries c.get.ensures.value in
    let found = rw c.in_ok-get.was at got in
    let is : view c.in_ok-get.field-0.now ≡ string name = some_same (found ∙ h) in
    let some : as_str (view c.in_ok-get.field-0.now) ≡ Some name = ap as_str is in
    let none = rw c.in_err-text.was at c.as_str.ensures in
    cc in
    if-none _ _ no

pub returns-in-Ok-clause-stands : goal.returns-in-Ok-clause-stands
returns-in-Ok-clause-stands c =
    let got = table_get c.get.result c.args.key.now c.args.members.now.entries c.get.ensures.value in
    let first = rw c.in_ok-get.was at got in
    let is = as-string (view c.in_ok-get.field-0.now) c.in_ok-text.text.now
    (rw c.in_ok-text.was at c.as_str.ensures) in
    let same : c.in_ok-text.text.now ≡ c.in-Ok.name =
    sym c.as_bytes.ensures.value ∙ sym c.in-Ok.ensures.value in (
      sym first ∙ ap (λ d. Some d) is ∙ ap (λ t. Some (string t)) same,
      subst IsName (sym c.in-Ok.ensures.value) (c.in-Ok.ensures.name.0 refl),
    )

pub returns-in-Err-clause-none : goal.returns-in-Err-clause-none
returns-in-Err-clause-none c = λ name is h.
    let got = table_get c.get.result c.args.key.now c.args.members.now.entries c.get.ensures.value in
    let first = rw c.in_ok-get.was at got in
    let view_is : view c.in_ok-get.field-0.now ≡ string name = some_same (first ∙ h) in
    let text : c.in_ok-text.text.now ≡ name =
    some_same ((rw c.in_ok-text.was at c.as_str.ensures) ∙ ap as_str view_is) in
    let no = c.in-Err.ensures.name.1 (subst IsName (sym (c.as_bytes.ensures.value ∙ text)) is) in
    cc
