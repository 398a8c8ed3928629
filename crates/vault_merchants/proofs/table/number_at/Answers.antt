use Rattle.std.proofs.Common.{rules, ◌≡◌, ◌∙◌, ℤ, ap, sym, Some, SFits, w64}
use Rattle.std.proofs.lemmas.Int.{to_z-of_z}
use Rattle.toml.specs.Data.{get_member, integer, as_integer}
use Rattle.toml.specs.View.{view, table_view}
use Rattle.toml.proofs.Views.{table_get}
use Rattle.vault_rights.proofs.Members.{some_same}
use Rattle.vault_rights.proofs.Pairs.{as-integer, if-none}
use Rattle.vault_merchants.proofs.table.number_at.Goals as goal

pub returns-in_err-get-clause-none : goal.returns-in_err-get-clause-none
returns-in_err-get-clause-none c =
    let no : (n : ℤ) → ¬ (get_member c.args.key.now (table_view c.args.members.now) ≡ Some (integer n)) =
    λ n h.
    let got = table_get c.get.result c.args.key.now c.args.members.now.entries c.get.ensures.value in
    let none = rw c.in_err-get.was at got in
    cc in
    if-none _ _ no

pub returns-in_err-number-clause-none : goal.returns-in_err-number-clause-none
returns-in_err-number-clause-none c =
    let no : (n : ℤ) → ¬ (get_member c.args.key.now (table_view c.args.members.now) ≡ Some (integer n)) =
    λ n h.
    let got = table_get c.get.result c.args.key.now c.args.members.now.entries c.get.ensures.value in
    let found = rw c.in_ok-get.was at got in
    let is : view c.in_ok-get.field-0.now ≡ integer n = some_same (found ∙ h) in
    let some : as_integer (view c.in_ok-get.field-0.now) ≡ Some n = ap as_integer is in
    let none = rw c.in_err-number.was at c.as_integer.ensures in
    cc in
    if-none _ _ no

pub returns-clause-stands : goal.returns-clause-stands
returns-clause-stands c =
    let got = table_get c.get.result c.args.key.now c.args.members.now.entries c.get.ensures.value in
    let first = rw c.in_ok-get.was at got in
    let is = as-integer (view c.in_ok-get.field-0.now) c.in_ok-number.number
    (rw c.in_ok-number.was at c.as_integer.ensures) in
    let fits : SFits w64 c.in_ok-number.number = search rules in
    let same = to_z-of_z w64 c.in_ok-number.number fits in
    sym first ∙ ap (λ d. Some d) is ∙ ap (λ z. Some (integer z)) (sym same)
